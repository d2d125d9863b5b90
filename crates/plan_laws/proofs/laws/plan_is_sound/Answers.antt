use Rattle.plan_laws.proofs.PlanTables.{plan_sound}
use Rattle.plan_laws.proofs.laws.plan_is_sound.Goals as goal

pub returns : goal.returns
returns c = λ n p h. plan_sound n p h
