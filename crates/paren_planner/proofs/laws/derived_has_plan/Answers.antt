use Rattle.paren_planner.proofs.Bytes.{rows_within, derived_least}
use Rattle.paren_planner.proofs.laws.derived_has_plan.Goals as goal

pub returns : goal.returns
returns c = λ language text n P u d. (derived_least language text n P d, rows_within language text n P u d)
