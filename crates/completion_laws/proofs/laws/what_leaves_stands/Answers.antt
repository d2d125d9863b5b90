use Rattle.completion_laws.proofs.RuleLaws.{what_leaves}
use Rattle.completion_laws.proofs.laws.what_leaves_stands.Goals as goal

pub returns : goal.returns
returns c = λ labels tree completion d. what_leaves completion d
