-- Nodes whose rows are numbered.
use Rattle.std.specs.Prelude.{◌≡◌, ℕ, ◌+◌, ◌≤◌, List, Option, Some}
use Rattle.std.specs.List.{slice_get}
use Rattle.tree.specs.declared.flat_node.NodeNumber.{NodeNumber}
use Rattle.tree.specs.declared.flat_node.FlatNode.{FlatNode}
use Rattle.tree.specs.declared.node_use.NodeUse.{NodeUse}
use Rattle.tree.specs.declared.node_use.ParentUse.{ParentUse}
use Rattle.tree.specs.Building.{most}
use Rattle.tree.specs.Flat.{numbers_of, run_of}
use Rattle.tree.specs.Growth.{node_rows}
use Rattle.tree.specs.Labels.{node_labels}
use Rattle.tree.specs.NodeUses.{rows_in, parts_rows, row_list, parts_row_list}
use Rattle.tree.specs.Standing.{Stands, AreStanding, node_places, with_from}
use Rattle.tree.specs.Tree.{Tree, Parts, node_total, parts_total, part_count}

-- only rows change
pub record KeepsLabels (old new : List FlatNode) : Type 0 where
  pub labels : node_labels new ≡ node_labels old
  pub places : node_places new ≡ node_places old

-- the rows of a node that stands so and of those below it are numbered from one on, where four bytes hold them all
abbrev pub NumbersNode : List (Option NodeNumber) → List FlatNode → List FlatNode → NodeUse → ℕ → ℕ → ℕ → Type 0
NumbersNode pool old new a number r next =
    (first : ℕ) (t : Tree) → Stands pool old first number t → r + node_total t ≤ most + 1
    → (node_rows new ≡ with_from first (row_list a r t) (node_rows old)) × (next ≡ r + rows_in a t)

abbrev pub NumbersParts : List (Option NodeNumber) → List FlatNode → List FlatNode → ParentUse → List (Option NodeNumber) → ℕ → ℕ → Type 0
NumbersParts pool old new a run r next =
    (first : ℕ) (ps : Parts) → run ≡ numbers_of first ps → AreStanding pool old first ps → r + parts_total ps ≤ most + 1
    → (node_rows new ≡ with_from first (parts_row_list a (part_count ps) 0 r ps) (node_rows old)) × (next ≡ r + parts_rows a (part_count ps) 0 ps)

-- the rows of all below a node are numbered from this number on
abbrev pub NumbersBelow : List (Option NodeNumber) → List FlatNode → List FlatNode → NodeUse → ℕ → ℕ → ℕ → Type 0
NumbersBelow pool old new a number r next =
    (x : FlatNode) → slice_get old number ≡ Some x → NumbersParts pool old new (record { node_use = a; kind = x.kind; flags = x.flags }) (run_of pool x) r next
