-- A vector of nodes that is one whole tree: they are all the nodes of the last one, each behind its parts, and each but the last is a part of just one.
use Rattle.std.specs.Prelude.{◌≡◌, ◌-◌, ◌<◌, ◌≤◌, [], length}
use Rattle.tree.specs.Tree.{Tree}
use Rattle.tree.specs.Flat.{tree_at, trees, post_order, runs_of}
use Rattle.tree.specs.Growth.{node_rows, node_runs}
use Rattle.tree.specs.NodeUses.{rows_of}
use Rattle.tree.specs.Building.{most}
use Rattle.tree.specs.Labels.{labels_of, node_labels}
use Rattle.tree.specs.declared.flat_tree.FlatTree.{FlatTree}

-- the tree of the last node
abbrev pub whole_tree : FlatTree → Tree
whole_tree f = tree_at f.parts.items f.nodes.items (length f.nodes.items - 1)

pub record IsWhole (f : FlatTree) : Type 0 where
  pub filled : 0 < length f.nodes.items
  pub nodes : trees f.parts.items [] f.nodes.items ≡ post_order (whole_tree f)
  pub runs : node_runs f.parts.items f.nodes.items ≡ runs_of 0 (whole_tree f)
  pub rows : node_rows f.nodes.items ≡ rows_of (whole_tree f)

-- a vector of the nodes of one tree, whose rows may not be numbered yet
pub record HasNodesOf (f : FlatTree) (t : Tree) : Type 0 where
  pub labels : node_labels f.nodes.items ≡ labels_of t
  pub runs : node_runs f.parts.items f.nodes.items ≡ runs_of 0 t
  pub few : length f.nodes.items ≤ most
