use Rattle.std.proofs.Common.{◌≡◌, ◌∙◌, ◌+◌, ◌<◌, ◌≤◌, length, drop, sym, ap, arith}
use Rattle.std.proofs.lemmas.List.{drop_all}
use Rattle.paren_planner.specs.Marked.{marked_through, shown_marks}
use Rattle.paren_planner.proofs.ForwardSteps.{marked_at, marked_past}
use Rattle.paren_planner.proofs.wrap_pass.wrap_pass.Goals as goal

pub loop-index-preserved : goal.loop-index-preserved
loop-index-preserved c =
    let xs = c.args.steps.now in
    let k = c.loop-index.index in
    let count : c.len-index-end.result ≡ length xs = c.len-index-end.ensures.value in
    let within : k < length xs = omega (arith, c.loop-index-test.true, count) in
    ap (marked_through (drop (k + 1) xs)) c.in_ok-take_step.ensures
    ∙ sym (marked_at xs k c.at.result.now (shown_marks c.args.table.now.rows.items c.loop-index.around c.loop-index.outer.items c.loop-index.wrapped) within c.at.ensures) ∙ c.loop-index.invariant

pub returns : goal.returns
returns c =
    let xs = c.args.steps.now in
    let count : c.len-index-end.result ≡ length xs = c.len-index-end.ensures.value in
    let past : length xs ≤ c.loop-index.index = omega (arith, c.loop-index-test.false, count) in
    ap (λ t. t.flags)
    (sym (marked_past xs c.loop-index.index (shown_marks c.args.table.now.rows.items c.loop-index.around c.loop-index.outer.items c.loop-index.wrapped) (drop_all c.loop-index.index xs past)) ∙ c.loop-index.invariant)
