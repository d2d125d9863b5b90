use Rattle.tokens.specs.Closers.{is_plain}
use Rattle.tokens.proofs.TriviaSteps.{all_begins}
use Rattle.tokens.proofs.trivia.plain_unless.Goals as goal

pub returns-then-starred-clause-plain : goal.returns-then-starred-clause-plain
returns-then-starred-clause-plain c = all_begins is_plain c.args.text.now c.args.at c.requires
