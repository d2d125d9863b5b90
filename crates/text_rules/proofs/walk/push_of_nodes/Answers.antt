use Rattle.std.proofs.Common.{◌≤◌, length, arith}
use Rattle.tree.specs.Node.{node_tree}
use Rattle.tree.specs.Flat.{post_order}
use Rattle.tree.proofs.Grown.{length-post_order}
use Rattle.text_rules.specs.Found.{of_node}
use Rattle.text_rules.proofs.NodeTurns.{each-end, each-turn}
use Rattle.text_rules.proofs.Turns.{grows}
use Rattle.text_rules.proofs.walk.push_of_nodes.Goals as goal

pub loop-number-preserved : goal.loop-number-preserved
loop-number-preserved c = record {
  found = each-turn (of_node c.args.look.source.now c.args.look.rule) (post_order c.args.program.now) c.loop-number.number c.loop-number.out.items _ c.loop-number.invariant.found (node_tree c.node.result) c.push_of_node.new.out.items c.node.ensures.tree
      c.in_ok-push_of_node.ensures.found;
  kept = grows c.args.out.now.items c.loop-number.out.items c.push_of_node.new.out.items c.loop-number.invariant.kept c.in_ok-push_of_node.ensures.kept;
}

pub returns-clause-found : goal.returns-clause-found
returns-clause-found c =
    let t = c.args.program.now in
    let past : length (post_order t) ≤ c.loop-number.number = omega (arith, length-post_order t, c.node_count-number-end.ensures, c.loop-number-test.false) in
    each-end (of_node c.args.look.source.now c.args.look.rule) (post_order t) c.loop-number.number c.loop-number.out.items _ c.loop-number.invariant.found past
