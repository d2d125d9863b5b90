use Rattle.completion_laws.proofs.RuleLaws.{branch_returns}
use Rattle.completion_laws.proofs.laws.branches_return.Goals as goal

pub returns : goal.returns
returns c = λ labels branch completion h d. branch_returns completion h d
