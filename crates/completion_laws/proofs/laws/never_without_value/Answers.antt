use Rattle.completion_laws.proofs.RuleLaws.{never_without}
use Rattle.completion_laws.proofs.laws.never_without_value.Goals as goal

pub returns : goal.returns
returns c = λ tree completion h i d. never_without completion h i d
