-- Trees whose nodes stand in a vector.
use Rattle.std.specs.Prelude.{◌≡◌, ℕ, ◌+◌, List, ◌++◌, length, take, drop, map, Option, Some, None}
use Rattle.tree.specs.declared.flat_node.NodeNumber.{NodeNumber}
use Rattle.tree.specs.declared.flat_node.FlatNode.{FlatNode}
use Rattle.tree.specs.Flat.{parts_runs, runs_of}
use Rattle.tree.specs.Growth.{node_runs}
use Rattle.tree.specs.Labels.{labels_of, node_labels, parts_labels}
use Rattle.tree.specs.Tree.{Tree, Parts, node_total}

-- these stand in a list from a place on
abbrev pub StandsFrom : {X : Type 0} → List X → ℕ → List X → Type 0
StandsFrom {X} xs i ys = (before : List X) × (behind : List X) × (xs ≡ before ++ (ys ++ behind)) × (length before ≡ i)

-- the list with these in it, from a place on
abbrev pub with_from : {X : Type 0} → ℕ → List X → List X → List X
with_from i ys xs = take i xs ++ (ys ++ drop (i + length ys) xs)

-- the nodes of a tree, its own with this number
pub record Stands (pool : List (Option NodeNumber)) (es : List FlatNode) (first own : ℕ) (t : Tree) : Type 0 where
  pub number : own + 1 ≡ first + node_total t
  pub labels : StandsFrom (node_labels es) first (labels_of t)
  pub runs : StandsFrom (node_runs pool es) first (runs_of first t)

-- the nodes of some parts
pub record AreStanding (pool : List (Option NodeNumber)) (es : List FlatNode) (first : ℕ) (ps : Parts) : Type 0 where
  pub labels : StandsFrom (node_labels es) first (parts_labels ps)
  pub runs : StandsFrom (node_runs pool es) first (parts_runs first ps)

-- where the parts of each node are
abbrev pub node_places : List FlatNode → List (ℕ × ℕ)
node_places es = map (λ (e : FlatNode). (e.first, e.count)) es

abbrev pub held_number : Option (Option NodeNumber) → Option NodeNumber
held_number None = None
held_number (Some o) = o
