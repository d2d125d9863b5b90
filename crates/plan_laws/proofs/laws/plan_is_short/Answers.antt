use Rattle.plan_laws.proofs.PlanForms.{plan_short}
use Rattle.plan_laws.proofs.laws.plan_is_short.Goals as goal

pub returns : goal.returns
returns c = λ n p few h. plan_short n p few h
