use Rattle.cost_table.specs.Tables.{table_of}
use Rattle.plan_laws.proofs.PlanTables.{plan_sound}
use Rattle.cost_certificate.proofs.Faultless.{faultless_by}
use Rattle.plan_laws.proofs.laws.plan_passes.Goals as goal

pub returns : goal.returns
returns c = λ n p h. faultless_by (table_of p.table.rows.items p.table.total) n (plan_sound n p h)
