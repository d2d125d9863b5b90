-- The trees that a node and a run of parts of the finished tree stand for.
use Rattle.std.specs.Prelude.{ℕ, [], map, Option}
use Rattle.tree.specs.Tree.{Tree, Parts, parts_with_gaps}
use Rattle.tree.specs.Flat.{flat_tree, trees, named}
use Rattle.tree.specs.declared.flat_ref.FlatRef.{FlatRef}
use Rattle.tree.specs.declared.flat_list.FlatList.{FlatList}

abbrev pub place_tree : FlatRef → Tree
place_tree p = flat_tree p.tree.now.parts.items p.node.now (trees p.tree.now.parts.items [] p.tree.now.nodes.items)

-- the row that it holds
abbrev pub place_row : FlatRef → Option ℕ
place_row p = p.node.now.row

abbrev pub run_parts : FlatList → Parts
run_parts r = parts_with_gaps (map (named (trees r.tree.now.parts.items [] r.tree.now.nodes.items)) r.parts.now)
