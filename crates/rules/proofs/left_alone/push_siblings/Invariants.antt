use Rattle.std.proofs.Common.{◌≡◌, ◌++◌}
use Rattle.tree.specs.Node.{node_tree}
use Rattle.tree.specs.Tree.{parts_of, parts_drop}
use Rattle.name_tables.specs.BoundNames.{each_part}
use Rattle.rules.specs.LeftAlone.{sibling}
use Rattle.rules.proofs.left_alone.push_siblings.Given as goal

abbrev pub invariant-loop-index : goal.invariant-loop-index
invariant-loop-index l =
    let ps = parts_of (node_tree l.node) in
    l.starts.items ++ each_part sibling (parts_drop l.index ps) ≡ l.fn.starts.items ++ each_part sibling ps
