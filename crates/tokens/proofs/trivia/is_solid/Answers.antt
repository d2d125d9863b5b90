use Rattle.std.proofs.Common.{sym, ◌∙◌}
use Rattle.tokens.proofs.TriviaSteps.{solid_none}
use Rattle.tokens.proofs.trivia.is_solid.Goals as goal

pub returns-in-Some : goal.returns-in-Some
returns-in-Some c = λ h. solid_none c.args.text.now c.args.at c.in-Some.step.end c.in-Some.step.c c.in-Some.ensures.some (sym c.separates_none.ensures ∙ h)
