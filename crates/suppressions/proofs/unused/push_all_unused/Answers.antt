use Rattle.std.proofs.Common.{◌≡◌, ◌<◌, false, length, ◌∙◌, arith}
use Rattle.std.specs.List.{list_any}
use Rattle.std.proofs.lemmas.List.{get_or_default}
use Rattle.suppressions.specs.Left.{is_index}
use Rattle.suppressions.proofs.Items.{from-item}
use Rattle.suppressions.proofs.UnusedTurns.{unused-turn}
use Rattle.suppressions.proofs.unused.push_all_unused.Goals as goal

pub loop-index-preserved : goal.loop-index-preserved
loop-index-preserved c =
    let i = c.loop-index.index in
    let used = c.in_ok-used.used.items in
    let are = c.in_ok-used.ensures in
    let within : c.loop-index.index < length c.args.suppressions.now = c.loop-index-test.true in
    let flagged : c.loop-index.index < length c.in_ok-used.used.items = omega (arith, are.0) in
    let said : c.index.result.now ≡ list_any (is_index c.loop-index.index) c.args.offs.now = c.index.ensures ∙ (get_or_default used i c.index.result.now false flagged ∙ are.1 i within) in
    unused-turn c.args.offs.now c.args.suppressions.now i c.loop-index.out.items _ c.loop-index.invariant c.index-suppressions-index.result c.index.result.now c.push_if_unused.new.out.items
    (from-item c.args.suppressions.now i c.index-suppressions-index.result within c.index-suppressions-index.is) said c.in_ok-push_if_unused.ensures
