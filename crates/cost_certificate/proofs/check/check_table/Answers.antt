use Rattle.std.proofs.Common.{◌≤◌, length, ◌≡◌, ◌∙◌, ◌+◌, sym, ap, subst, refl, arith, suc, Some, true, false}
use Rattle.source_text.specs.declared.fault.Reason.TheVariants as reason
use Rattle.tree.specs.Node.{node_tree}
use Rattle.language.specs.declared.Rank.TheVariants.{Expression}
use Rattle.language.specs.declared.Start.TheVariants.{Any}
use Rattle.language.specs.Pieces.{script}
use Rattle.language.specs.RowPositions.{rows}
use Rattle.language.specs.Claims.{row_nodes, bound_at}
use Rattle.cost_table.specs.Costs.{capped}
use Rattle.cost_table.specs.Tables.{table_of}
use Rattle.cost_table.specs.Weighed.{least_of}
use Rattle.cost_certificate.specs.Checked.{shown}
use Rattle.cost_certificate.specs.Faults.{first_fault}
use Rattle.cost_certificate.specs.Walked.{wide_nodes, IsPassed}
use Rattle.cost_certificate.proofs.Bounds.{wide-length}
use Rattle.cost_certificate.proofs.FaultAnswers.{script_passed, misshapen_first, left_over_first, fault_first, total_last, answer_fault, answer_total, answer_sound, rows_are, below_index}
use Rattle.cost_certificate.proofs.check.check_table.Goals as goal

pub bad-requires : goal.bad-requires
bad-requires c =
    let T = table_of c.args.table.now.rows.items c.args.table.now.total in
    let n = node_tree c.root.result in
    let h = c.check_node-judged.ensures.passed in
    let next = h.next in
    let long = wide-length n script in
    let same = ap (λ x. rows x script) c.root.ensures in
    let few = c.requires.few in
    let low = below_index c.check_node-judged.result.passed.misshapen c.in-Some.index c.check_node-judged.result.passed.next c.in-Some.is h.within in
    omega (arith, next, long, same, few, low)

pub returns-in-Some-clause-answer : goal.returns-in-Some-clause-answer
returns-in-Some-clause-answer c =
    let T = table_of c.args.table.now.rows.items c.args.table.now.total in
    let n = c.args.program.now in
    let p = c.check_node-judged.result.passed in
    let h : IsPassed T (row_nodes n script) 0 p = script_passed T n p (subst (λ x. IsPassed T (wide_nodes x script) 0 p) c.root.ensures c.check_node-judged.ensures.passed) in
    let z : c.in-Some.index + 1 ≡ suc c.in-Some.index = omega arith in
    answer_fault (first_fault T n) (suc c.in-Some.index, reason.Shape) T.total (record { row = c.in-Some.index + 1; reason = reason.Shape }) c.bad.result (misshapen_first T n p c.in-Some.index h c.in-Some.is) (ap (λ k. (k, reason.Shape)) z) c.bad.ensures

pub returns-then-judged-row_count-clause-answer : goal.returns-then-judged-row_count-clause-answer
returns-then-judged-row_count-clause-answer c =
    let T = table_of c.args.table.now.rows.items c.args.table.now.total in
    let n = c.args.program.now in
    let p = c.check_node-judged.result.passed in
    let h : IsPassed T (row_nodes n script) 0 p = script_passed T n p (subst (λ x. IsPassed T (wide_nodes x script) 0 p) c.root.ensures c.check_node-judged.ensures.passed) in
    let z : p.next + 1 ≡ suc p.next = omega arith in
    let count = rows_are c.args.table.now.rows.items c.args.table.now.total in
    answer_fault (first_fault T n) (suc p.next, reason.Shape) T.total (record { row = p.next + 1; reason = reason.Shape }) c.bad-then-judged-row_count.result
    (left_over_first T n p h c.in_default.is (omega (arith, count, c.if-judged-row_count.true, c.row_count.ensures))) (ap (λ k. (k, reason.Shape)) z) c.bad-then-judged-row_count.ensures

pub returns-in-Some-fault-clause-answer : goal.returns-in-Some-fault-clause-answer
returns-in-Some-fault-clause-answer c =
    let T = table_of c.args.table.now.rows.items c.args.table.now.total in
    let n = c.args.program.now in
    let p = c.check_node-judged.result.passed in
    let h : IsPassed T (row_nodes n script) 0 p = script_passed T n p (subst (λ x. IsPassed T (wide_nodes x script) 0 p) c.root.ensures c.check_node-judged.ensures.passed) in
    let count = rows_are c.args.table.now.rows.items c.args.table.now.total in
    answer_fault (first_fault T n) (shown c.in-Some-fault.fault) T.total c.in-Some-fault.fault _
    (fault_first T n p c.in-Some-fault.fault h c.in_default.is (omega (arith, count, c.if-judged-row_count.false, c.row_count.ensures)) c.in-Some-fault.is) refl refl

pub returns-then-is_above-clause-answer : goal.returns-then-is_above-clause-answer
returns-then-is_above-clause-answer c =
    let T = table_of c.args.table.now.rows.items c.args.table.now.total in
    let n = c.args.program.now in
    let p = c.check_node-judged.result.passed in
    let h : IsPassed T (row_nodes n script) 0 p = script_passed T n p (subst (λ x. IsPassed T (wide_nodes x script) 0 p) c.root.ensures c.check_node-judged.ensures.passed) in
    let count = rows_are c.args.table.now.rows.items c.args.table.now.total in
    let bound = c.least-bound.ensures ∙ ap (λ w. least_of w script) c.costs.ensures ∙ c.check_node-judged.ensures.bounds Expression true Any ∙ ap (λ x. capped (bound_at T x script 1)) c.root.ensures in
    answer_fault (first_fault T n) (0, reason.Total) T.total (record { row = 0; reason = reason.Total }) c.bad-then-is_above.result
    (total_last T n p c.least-bound.result true h c.in_default.is (omega (arith, count, c.if-judged-row_count.false, c.row_count.ensures)) c.in_default-fault.is (omega (arith, c.total.type_inv, c.total.ensures)) bound
    (ap (λ x. Rattle.cost_certificate.specs.Faults.is_above (Some x) c.least-bound.result) (sym c.total.ensures) ∙ sym c.is_above.ensures ∙ c.if-is_above.true)) refl c.bad-then-is_above.ensures

pub returns-clause-answer : goal.returns-clause-answer
returns-clause-answer c =
    let T = table_of c.args.table.now.rows.items c.args.table.now.total in
    let n = c.args.program.now in
    let p = c.check_node-judged.result.passed in
    let h : IsPassed T (row_nodes n script) 0 p = script_passed T n p (subst (λ x. IsPassed T (wide_nodes x script) 0 p) c.root.ensures c.check_node-judged.ensures.passed) in
    let count = rows_are c.args.table.now.rows.items c.args.table.now.total in
    let bound = c.least-bound.ensures ∙ ap (λ w. least_of w script) c.costs.ensures ∙ c.check_node-judged.ensures.bounds Expression true Any ∙ ap (λ x. capped (bound_at T x script 1)) c.root.ensures in
    answer_total (first_fault T n) T.total c.total-2.result
    (total_last T n p c.least-bound.result false h c.in_default.is (omega (arith, count, c.if-judged-row_count.false, c.row_count.ensures)) c.in_default-fault.is (omega (arith, c.total.type_inv, c.total.ensures)) bound
    (ap (λ x. Rattle.cost_certificate.specs.Faults.is_above (Some x) c.least-bound.result) (sym c.total.ensures) ∙ sym c.is_above.ensures ∙ c.if-is_above.false)) c.total-2.ensures

pub returns-clause-bound : goal.returns-clause-bound
returns-clause-bound c =
    let T = table_of c.args.table.now.rows.items c.args.table.now.total in
    let n = c.args.program.now in
    let p = c.check_node-judged.result.passed in
    let h : IsPassed T (row_nodes n script) 0 p = script_passed T n p (subst (λ x. IsPassed T (wide_nodes x script) 0 p) c.root.ensures c.check_node-judged.ensures.passed) in
    let count = rows_are c.args.table.now.rows.items c.args.table.now.total in
    let bound = c.least-bound.ensures ∙ ap (λ w. least_of w script) c.costs.ensures ∙ c.check_node-judged.ensures.bounds Expression true Any ∙ ap (λ x. capped (bound_at T x script 1)) c.root.ensures in
    let none = total_last T n p c.least-bound.result false h c.in_default.is (omega (arith, count, c.if-judged-row_count.false, c.row_count.ensures)) c.in_default-fault.is (omega (arith, c.total.type_inv, c.total.ensures)) bound
    (ap (λ x. Rattle.cost_certificate.specs.Faults.is_above (Some x) c.least-bound.result) (sym c.total.ensures) ∙ sym c.is_above.ensures ∙ c.if-is_above.false) in
    λ language text m P same d. subst (λ k. k ≤ length P) (sym c.total-2.ensures) (Rattle.cost_certificate.proofs.Faultless.faultless_bound T n none language text m P same d)

pub returns-in-Some-clause-sound : goal.returns-in-Some-clause-sound
returns-in-Some-clause-sound c = answer_sound (table_of c.args.table.now.rows.items c.args.table.now.total) c.args.program.now _ (returns-in-Some-clause-answer c)

pub returns-then-judged-row_count-clause-sound : goal.returns-then-judged-row_count-clause-sound
returns-then-judged-row_count-clause-sound c = answer_sound (table_of c.args.table.now.rows.items c.args.table.now.total) c.args.program.now _ (returns-then-judged-row_count-clause-answer c)

pub returns-in-Some-fault-clause-sound : goal.returns-in-Some-fault-clause-sound
returns-in-Some-fault-clause-sound c = answer_sound (table_of c.args.table.now.rows.items c.args.table.now.total) c.args.program.now _ (returns-in-Some-fault-clause-answer c)

pub returns-then-is_above-clause-sound : goal.returns-then-is_above-clause-sound
returns-then-is_above-clause-sound c = answer_sound (table_of c.args.table.now.rows.items c.args.table.now.total) c.args.program.now _ (returns-then-is_above-clause-answer c)

pub returns-clause-sound : goal.returns-clause-sound
returns-clause-sound c = answer_sound (table_of c.args.table.now.rows.items c.args.table.now.total) c.args.program.now _ (returns-clause-answer c)
