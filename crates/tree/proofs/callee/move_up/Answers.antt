use Rattle.std.proofs.Common.{◌≡◌, ◌<◌, ◌≤◌, length, set, get_or, sym, ap, ◌∙◌, arith, add-one}
use Rattle.tree.specs.Moved.{moved_up}
use Rattle.tree.specs.Building.{most}
use Rattle.tree.proofs.FlatTrees.{Pool}
use Rattle.tree.proofs.MovedNodes.{mapped_between, none_between, still_between, one_between, all_between, is_before_at}
use Rattle.tree.proofs.callee.move_up.Goals as goal

pub loop-index-init : goal.loop-index-init
loop-index-init c = sym (none_between moved_up c.args.from c.args.parts.now)

pub moved_up-requires : goal.moved_up-requires
moved_up-requires c =
    let os = c.args.parts.now in
    let i = c.loop-index.index in
    let o = c.index-parts-index.result in
    let low : i < length os = omega (arith, c.loop-index-test.true, c.loop-index.auto.parts) in
    let from : c.args.from ≤ i = omega (arith, c.loop-index.auto.index) in
    let read : o ≡ get_or os i o = c.index-parts-index.is ∙ ap (λ (us : Pool). get_or us i o) c.loop-index.invariant ∙ still_between moved_up c.args.from i os o from low in
    is_before_at most os i o c.requires.before low read

pub loop-index-preserved : goal.loop-index-preserved
loop-index-preserved c =
    let os = c.args.parts.now in
    let i = c.loop-index.index in
    let o = c.index-parts-index.result in
    let low : i < length os = omega (arith, c.loop-index-test.true, c.loop-index.auto.parts) in
    let from : c.args.from ≤ i = omega (arith, c.loop-index.auto.index) in
    let read : o ≡ get_or os i o = c.index-parts-index.is ∙ ap (λ (us : Pool). get_or us i o) c.loop-index.invariant ∙ still_between moved_up c.args.from i os o from low in
    ap (λ (us : Pool). set us i c.moved_up.result) c.loop-index.invariant
    ∙ ap (set (mapped_between moved_up c.args.from i os) i) (c.moved_up.ensures ∙ ap moved_up read)
    ∙ one_between moved_up c.args.from i os o from low
    ∙ ap (λ n. mapped_between moved_up c.args.from n os) (sym (add-one i))

pub returns : goal.returns
returns c =
    let os = c.args.parts.now in
    let past : length os ≤ c.loop-index.index = omega (arith, c.loop-index-test.false, c.loop-index.auto.parts) in
    c.loop-index.invariant ∙ all_between moved_up c.args.from c.loop-index.index os past c.requires.inside
