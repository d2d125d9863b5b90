use Rattle.tree.proofs.FlatTrees.{range_at, before_at, tree_here, held_row}
use Rattle.tree.proofs.flat_ref.FlatRef.new.Goals as goal

pub invariant_of-result : goal.invariant_of-result
invariant_of-result c =
    let pool = c.args.tree.now.parts.items in
    let es = c.args.tree.now.nodes.items in
    let e = c.index-node.result.now in
    record {
      linked = (
        range_at pool es c.args.number e c.args.tree.now.linked c.requires c.index-node.ensures,
        before_at pool es c.args.number e c.args.tree.now.linked c.requires c.index-node.ensures,
      );
    }

pub returns-clause-tree : goal.returns-clause-tree
returns-clause-tree c = tree_here c.args.tree.now.parts.items c.args.tree.now.nodes.items c.args.number c.index-node.result.now c.args.tree.now.linked c.requires c.index-node.ensures

pub returns-clause-row : goal.returns-clause-row
returns-clause-row c = held_row c.args.tree.now.nodes.items c.args.number c.index-node.result.now c.requires c.index-node.ensures
