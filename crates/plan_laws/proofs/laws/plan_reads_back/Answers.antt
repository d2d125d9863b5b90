use Rattle.std.proofs.Common.{refl}
use Rattle.cost_table.specs.Tables.{table_of}
use Rattle.cost_certificate.specs.Forms.{table_text}
use Rattle.plan_laws.proofs.PlanForms.{plan_formed}
use Rattle.cost_certificate.proofs.TableTexts.{read_back}
use Rattle.plan_laws.proofs.laws.plan_reads_back.Goals as goal

pub returns : goal.returns
returns c = λ language text n P p u d few h f.
    let t = table_of p.table.rows.items p.table.total in
    let formed = plan_formed language text n P p d few h in
    (formed, read_back (table_text f t) f t formed refl)
