use Rattle.tokens.proofs.TriviaSteps.{gap_begins}
use Rattle.tokens.proofs.trivia.skip_trivia.Goals as goal

pub returns-then-is_solid-clause-gap : goal.returns-then-is_solid-clause-gap
returns-then-is_solid-clause-gap c = gap_begins c.args.text.now c.args.at c.requires
