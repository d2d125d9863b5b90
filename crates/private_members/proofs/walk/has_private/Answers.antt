use Rattle.std.proofs.Common.{◌≤◌, length, arith, sym, ap, ◌∙◌}
use Rattle.tree.specs.Flat.{post_order}
use Rattle.tree.specs.Kinds.{is_private}
use Rattle.tree.specs.Node.{node_tree}
use Rattle.tree.proofs.Grown.{length-post_order}
use Rattle.private_members.proofs.PublicScripts.{private-end, private-found, private-turn}
use Rattle.private_members.proofs.walk.has_private.Goals as goal

pub returns-then-is_private : goal.returns-then-is_private
returns-then-is_private c =
    private-found (post_order c.args.program.now) c.loop-number.number _ c.loop-number.invariant (node_tree c.node.result) c.node.ensures.tree
    (sym (ap is_private c.kind.ensures) ∙ sym c.is_private.ensures ∙ c.if-is_private.true)

pub loop-number-preserved : goal.loop-number-preserved
loop-number-preserved c =
    private-turn (post_order c.args.program.now) c.loop-number.number _ c.loop-number.invariant (node_tree c.node.result) c.node.ensures.tree
    (sym (ap is_private c.kind.ensures) ∙ sym c.is_private.ensures ∙ c.if-is_private.false)

pub returns : goal.returns
returns c =
    let t = c.args.program.now in
    let past : length (post_order t) ≤ c.loop-number.number = omega (arith, length-post_order t, c.node_count-number-end.ensures, c.loop-number-test.false) in
    private-end (post_order t) c.loop-number.number _ c.loop-number.invariant past
