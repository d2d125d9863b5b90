use Rattle.std.proofs.Common.{◌≡◌, ◌∙◌, ◌+◌, ◌-◌, ◌<◌, ◌≤◌, length, reverse, drop, sym, ap, subst, arith}
use Rattle.std.proofs.lemmas.List.{drop_all}
use Rattle.paren_planner.specs.Pending.{AreHeld}
use Rattle.paren_planner.specs.Steps.{taken, at_the_end}
use Rattle.paren_planner.proofs.BackwardSteps.{all_held, taken_at, taken_past}
use Rattle.paren_planner.proofs.cost_pass.cost_pass.Goals as goal

pub loop-index-init : goal.loop-index-init
loop-index-init c =
    let count : c.len-index.result ≡ length c.args.steps.now = c.len-index.ensures.value in
    let past : length c.args.steps.now ≤ c.len-index.result = omega (arith, count) in
    (λ j. record { here = c.new-pending.ensures.here j; outer = c.new-pending.ensures.outer j; rows = reverse (c.requires j) })
    ∙ sym (taken_past c.args.steps.now c.len-index.result at_the_end (drop_all c.len-index.result c.args.steps.now past))

pub take_back-requires : goal.take_back-requires
take_back-requires c = subst AreHeld (sym c.loop-index.invariant) (all_held (drop c.loop-index.index c.args.steps.now))

pub loop-index-preserved : goal.loop-index-preserved
loop-index-preserved c =
    let xs = c.args.steps.now in
    let k = c.loop-index.index - 1 in
    let next : k + 1 ≡ c.loop-index.index = omega (arith, c.loop-index-test.true) in
    let count : c.len-index.result ≡ length xs = c.len-index.ensures.value in
    let within : k < length xs = omega (arith, c.loop-index-test.true, c.loop-index.auto.index, count) in
    c.in_ok-take_back.ensures ∙ ap (taken c.at.result.now) c.loop-index.invariant ∙ sym (taken_at xs k c.loop-index.index c.at.result.now at_the_end next within c.at.ensures)
