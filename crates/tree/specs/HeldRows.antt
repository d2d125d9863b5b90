-- The rows that a node of a finished tree and those below it hold: the rows of nodes that stand so.
use Rattle.std.specs.Prelude.{◌≡◌, ℕ, zero, suc, ◌+◌, cond, length, slice_index_or, ◌<◌, Option, Some, None}
use Rattle.std.specs.List.{slice_get}
use Rattle.tree.specs.declared.flat_ref.FlatRef.{FlatRef}
use Rattle.tree.specs.declared.flat_list.FlatList.{FlatList}
use Rattle.tree.specs.declared.flat_node.NodeNumber.{NodeNumber}
use Rattle.tree.specs.declared.node.Node.{Node}
use Rattle.tree.specs.declared.node_use.NodeUse.{NodeUse}
use Rattle.tree.specs.Tree.{Tree, kind_of, flags_of, parts_of, part_count}
use Rattle.tree.specs.Flat.{numbers_of, runs_of, run_of}
use Rattle.tree.specs.Growth.{node_rows, node_runs}
use Rattle.tree.specs.NodeUses.{row_list, has_row, use_in, own_rows, rows_before}
use Rattle.tree.specs.Places.{place_tree, place_row}
use Rattle.tree.specs.Standing.{StandsFrom}

-- a node is the one that a list of parts names at this place
pub record IsNamed (l : FlatList) (i : ℕ) (p : FlatRef) : Type 0 where
  pub number : NodeNumber
  pub is : slice_get l.parts.now i ≡ Some (Some number)
  pub low : number.number < length l.tree.now.nodes.items
  pub node : p.node.now ≡ slice_index_or l.tree.now.nodes.items number.number p.node.now
  pub within : p.tree.now ≡ l.tree.now

-- a node that stands so holds the row that it has, and each below it the row that it has
pub record PlaceHoldsRows (a : NodeUse) (p : FlatRef) : Type 0 where
  pub first : ℕ
  pub row : ℕ
  pub rows : StandsFrom (node_rows p.tree.now.nodes.items) first (row_list a row (place_tree p))
  pub runs : StandsFrom (node_runs p.tree.now.parts.items p.tree.now.nodes.items) first (runs_of first (place_tree p))
  pub own_row : place_row p ≡ cond (has_row a (kind_of (place_tree p))) (Some row) None
  pub own_run : run_of p.tree.now.parts.items p.node.now ≡ numbers_of first (parts_of (place_tree p))

-- a node that stands so holds its row, and each below it its own; the first row in it, if there is one, has this number
abbrev pub PlaceHoldsRowsFrom : NodeUse → ℕ → FlatRef → Type 0
PlaceHoldsRowsFrom a r p = (held : PlaceHoldsRows a p) × (held.row ≡ r)

-- a node of a finished tree that stands so holds the row that it has, and each below it the row that it has
unfoldable pub HoldsRows : NodeUse → Node → Type 0
HoldsRows a n = PlaceHoldsRows a n.place

-- a node of a finished tree holds its row, and each below it its own; the first row in it, if there is one, has this number
unfoldable pub HoldsRowsFrom : NodeUse → ℕ → Node → Type 0
HoldsRowsFrom a r n = PlaceHoldsRowsFrom a r n.place

-- how a part of a node stands that stands so itself
abbrev pub use_below : NodeUse → Tree → ℕ → Tree → NodeUse
use_below a n i m = use_in (record { node_use = a; kind = kind_of n; flags = flags_of n }) (part_count (parts_of n)) i m

-- the number of the first row in a part of a node, if there is one, where that of the node is known
abbrev pub row_below : NodeUse → ℕ → Tree → ℕ → ℕ
row_below a r n i = r + own_rows a (kind_of n) + rows_before (record { node_use = a; kind = kind_of n; flags = flags_of n }) (part_count (parts_of n)) i (parts_of n)

-- the first of so many numbers from one on
abbrev pub first_number : ℕ → ℕ → Option ℕ
first_number r zero = None
first_number r (suc k) = Some r

-- the last of them
abbrev pub last_number : ℕ → ℕ → Option ℕ
last_number r zero = None
last_number r (suc k) = Some (r + k)
