use Rattle.std.proofs.Common.{◌∙◌, sym}
use Rattle.std.specs.Prelude.{◌↔◌, IsTrue}
use Rattle.std.proofs.lemmas.Bool.{false≢true}
use Rattle.paren_planner.specs.Plans.{HasPlan}
use Rattle.paren_planner.proofs.Plans.{plannable, total_of}
use Rattle.paren_planner.proofs.planner.plan_if_any.Goals as goal

pub returns-then-not-is_plannable-clause-none : goal.returns-then-not-is_plannable-clause-none
returns-then-not-is_plannable-clause-none c =
    let has : IsTrue c.is_plannable.result ↔ HasPlan c.args.program.now = plannable c.args.program.now c.is_plannable.result c.in_ok-weights.weights.total c.in_ok-weights.weights.table.rows.items c.row_count.result c.is_plannable.ensures c.in_ok-weights.ensures.total c.row_count.ensures c.in_ok-weights.ensures.rows in
    λ h. false≢true (sym c.if-not-is_plannable.true ∙ has.1 h)

pub planned-requires-clause-few : goal.planned-requires-clause-few
planned-requires-clause-few c =
    let has : IsTrue c.is_plannable.result ↔ HasPlan c.args.program.now = plannable c.args.program.now c.is_plannable.result c.in_ok-weights.weights.total c.in_ok-weights.weights.table.rows.items c.row_count.result c.is_plannable.ensures c.in_ok-weights.ensures.total c.row_count.ensures c.in_ok-weights.ensures.rows in
    (has.0 c.if-not-is_plannable.false).1

pub planned-requires-clause-total : goal.planned-requires-clause-total
planned-requires-clause-total c =
    let has : IsTrue c.is_plannable.result ↔ HasPlan c.args.program.now = plannable c.args.program.now c.is_plannable.result c.in_ok-weights.weights.total c.in_ok-weights.weights.table.rows.items c.row_count.result c.is_plannable.ensures c.in_ok-weights.ensures.total c.row_count.ensures c.in_ok-weights.ensures.rows in
    let h : HasPlan c.args.program.now = has.0 c.if-not-is_plannable.false in
    total_of c.args.program.now c.in_ok-weights.weights.total c.number-total.result c.in_ok-weights.ensures.total h.0 h.1 c.number-total.ensures

pub returns-clause-plan : goal.returns-clause-plan
returns-clause-plan c =
    let has : IsTrue c.is_plannable.result ↔ HasPlan c.args.program.now = plannable c.args.program.now c.is_plannable.result c.in_ok-weights.weights.total c.in_ok-weights.weights.table.rows.items c.row_count.result c.is_plannable.ensures c.in_ok-weights.ensures.total c.row_count.ensures c.in_ok-weights.ensures.rows in
    (has.0 c.if-not-is_plannable.false, c.in_ok-plan.ensures)
