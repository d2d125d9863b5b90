use Rattle.std.proofs.Common.{◌≤◌, length, arith}
use Rattle.tree.specs.Node.{node_tree}
use Rattle.tree.specs.Flat.{post_order}
use Rattle.tree.proofs.Grown.{length-post_order}
use Rattle.name_tables.specs.Sets.{contains}
use Rattle.native_prototypes.proofs.Passes.{grown, nodes-end, nodes-turn}
use Rattle.native_prototypes.proofs.walk.push_nodes.Goals as goal

pub loop-number-preserved : goal.loop-number-preserved
loop-number-preserved c = record {
  found = nodes-turn c.args.is_2022 (contains c.args.bound.now) (post_order c.args.program.now) c.loop-number.number c.loop-number.out.items _ c.loop-number.invariant.found (node_tree c.node.result)
      c.push_of_node.new.out.items c.node.ensures.tree c.in_ok-push_of_node.ensures.found;
  kept = grown c.args.out.now.items c.loop-number.out.items c.push_of_node.new.out.items c.loop-number.invariant.kept c.in_ok-push_of_node.ensures.kept;
}

pub returns-clause-found : goal.returns-clause-found
returns-clause-found c =
    let t = c.args.program.now in
    let past : length (post_order t) ≤ c.loop-number.number = omega (arith, length-post_order t, c.node_count-number-end.ensures, c.loop-number-test.false) in
    nodes-end c.args.is_2022 (contains c.args.bound.now) (post_order t) c.loop-number.number c.loop-number.out.items _ c.loop-number.invariant.found past
