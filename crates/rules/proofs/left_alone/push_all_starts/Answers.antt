use Rattle.std.proofs.Common.{◌≤◌, length, arith}
use Rattle.tree.specs.Node.{node_tree}
use Rattle.tree.specs.Flat.{post_order}
use Rattle.tree.proofs.Grown.{length-post_order}
use Rattle.rules.proofs.Starts.{starts-turn, starts-end}
use Rattle.rules.proofs.left_alone.push_all_starts.Goals as goal

pub loop-number-preserved : goal.loop-number-preserved
loop-number-preserved c =
    starts-turn c.args.why (post_order c.args.program.now) c.loop-number.number (node_tree c.node.result) c.loop-number.starts.items c.push_starts.new.starts.items _ c.node.ensures.tree c.in_ok-push_starts.ensures c.loop-number.invariant

pub returns : goal.returns
returns c =
    let t = c.args.program.now in
    let past : length (post_order t) ≤ c.loop-number.number = omega (arith, length-post_order t, c.node_count-number-end.ensures, c.loop-number-test.false) in
    starts-end c.args.why (post_order t) c.loop-number.number c.loop-number.starts.items _ past c.loop-number.invariant
