use Rattle.std.proofs.Common.{◌≤◌, length, arith}
use Rattle.tree.specs.Node.{node_tree}
use Rattle.tree.specs.Flat.{post_order}
use Rattle.tree.proofs.Grown.{length-post_order}
use Rattle.suppressions.proofs.CommentTurns.{outside-end, outside-turn}
use Rattle.suppressions.proofs.comments.comments_of.Goals as goal

pub loop-number-preserved : goal.loop-number-preserved
loop-number-preserved c =
    outside-turn c.args.source.now (post_order c.args.program.now) c.loop-number.number c.loop-number.from c.loop-number.out.items _ c.loop-number.invariant (node_tree c.node.result) _ c.push_up_to.new.out.items
    c.node.ensures.tree c.in_ok-from.ensures.place c.in_ok-from.ensures.found

pub returns : goal.returns
returns c =
    let t = c.args.program.now in
    let past : length (post_order t) ≤ c.loop-number.number = omega (arith, length-post_order t, c.node_count-number-end.ensures, c.loop-number-test.false) in
    outside-end c.args.source.now (post_order t) c.loop-number.number c.loop-number.from c.loop-number.out.items _ c.loop-number.invariant c.push_between.new.out.items past c.in_ok-push_between.ensures
