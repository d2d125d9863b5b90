-- The trees that a vector of nodes shows: each node's parts are nodes before it, named by their numbers in a list of all parts.
use Rattle.std.specs.Prelude.{ℕ, zero, suc, ◌+◌, ◌-◌, ◌≤◌, Bool, true, false, cond, List, [], ◌∷◌, ◌++◌, length, map, take, drop, Option, Some, None}
use Rattle.std.specs.List.{slice_get}
use Rattle.std.specs.Prelude.{slice_index_or}
use Rattle.tree.specs.Tree.{Tree, Parts, node, none, part, gap, plain, parts_with_gaps, node_total}
use Rattle.tree.specs.declared.kind.Kind.TheVariants.{Program}
use Rattle.tree.specs.declared.flat_node.NodeNumber.{NodeNumber}
use Rattle.tree.specs.declared.flat_node.FlatNode.{FlatNode}

-- the tree that a part's number names, among the trees of the nodes; none for a gap
abbrev pub named : List Tree → Option NodeNumber → Option Tree
named ts None = None
named ts (Some k) = slice_get ts k.number

-- the parts of a node, among those of all
abbrev pub run_of : List (Option NodeNumber) → FlatNode → List (Option NodeNumber)
run_of pool e = take e.count (drop e.first pool)

-- a node's tree, from those of the nodes before it
abbrev pub flat_tree : List (Option NodeNumber) → FlatNode → List Tree → Tree
flat_tree pool e ts = node e.kind e.text.now e.flags e.start e.end (parts_with_gaps (map (named ts) (run_of pool e)))

-- the trees of all nodes, behind some that are there
abbrev pub trees : List (Option NodeNumber) → List Tree → List FlatNode → List Tree
trees pool ts [] = ts
trees pool ts (e ∷ es) = trees pool (ts ++ flat_tree pool e ts ∷ []) es

abbrev pub no_tree : Tree
no_tree = node Program [] plain 0 0 none

-- the tree of the node with a number
abbrev pub tree_at : List (Option NodeNumber) → List FlatNode → ℕ → Tree
tree_at pool es i = slice_index_or (trees pool [] es) i no_tree

-- each part is a node before the one with this number
abbrev pub IsBefore : ℕ → Option NodeNumber → Type 0
IsBefore i None = Unit {0}
IsBefore i (Some k) = k.number + 1 ≤ i

abbrev pub AreBefore : ℕ → List (Option NodeNumber) → Type 0
AreBefore i [] = Unit {0}
AreBefore i (o ∷ os) = IsBefore i o × AreBefore i os

-- a node's parts stand in the list of all parts, and are nodes before the one with this number
abbrev pub IsLinked : List (Option NodeNumber) → ℕ → FlatNode → Type 0
IsLinked pool i e = (e.first + e.count ≤ length pool) × AreBefore i (run_of pool e)

-- each node's parts stand in the list of all parts, and are nodes before it
abbrev pub AreLinked : List (Option NodeNumber) → ℕ → List FlatNode → Type 0
AreLinked pool i [] = Unit {0}
AreLinked pool i (e ∷ es) = (e.first + e.count ≤ length pool) × (AreBefore i (run_of pool e) × AreLinked pool (i + 1) es)

abbrev mutual
  -- a tree and all below it, parts before their node
  pub post_order : Tree → List Tree
  post_order (node kind text flags from to parts) = parts_post_order parts ++ node kind text flags from to parts ∷ []

  pub parts_post_order : Parts → List Tree
  parts_post_order none = []
  parts_post_order (part tree rest) = post_order tree ++ parts_post_order rest
  parts_post_order (gap rest) = parts_post_order rest

-- the numbers of some parts, where the first node of the first has this number
abbrev pub numbers_of : ℕ → Parts → List (Option NodeNumber)
numbers_of i none = []
numbers_of i (part tree rest) = Some (record { number = i + node_total tree - 1 }) ∷ numbers_of (i + node_total tree) rest
numbers_of i (gap rest) = None ∷ numbers_of i rest

abbrev mutual
  -- the parts of each node of a tree, whose first node has this number
  pub runs_of : ℕ → Tree → List (List (Option NodeNumber))
  runs_of i (node kind text flags from to parts) = parts_runs i parts ++ numbers_of i parts ∷ []

  pub parts_runs : ℕ → Parts → List (List (Option NodeNumber))
  parts_runs i none = []
  parts_runs i (part tree rest) = runs_of i tree ++ parts_runs (i + node_total tree) rest
  parts_runs i (gap rest) = parts_runs i rest

abbrev pub same_number : ℕ → ℕ → Bool
same_number zero zero = true
same_number zero (suc j) = false
same_number (suc i) zero = false
same_number (suc i) (suc j) = same_number i j

-- a number, as often as a node is named in the list
abbrev pub if_named : ℕ → ℕ → List (Option NodeNumber) → List ℕ
if_named j i [] = []
if_named j i (None ∷ os) = if_named j i os
if_named j i (Some k ∷ os) = cond (same_number k.number j) (i ∷ if_named j i os) (if_named j i os)

-- the nodes that a node is a part of, where the first of them has this number
abbrev pub parents : ℕ → ℕ → List (List (Option NodeNumber)) → List ℕ
parents j i [] = []
parents j i (os ∷ runs) = if_named j i os ++ parents j (i + 1) runs
