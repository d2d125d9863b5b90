-- Which nodes a walk may pass, by the pairs of the text that derives the script.
use Rattle.std.specs.Prelude.{◌≡◌, ℕ, ◌+◌, ◌≤◌, Bool, List, [], ◌∷◌, Some, is_some, option_map, unwrap_or}
use Rattle.std.specs.List.Sorted.{IsNonDecreasingBy}
use Rattle.tree.specs.declared.kind.Pair.{Pair}
use Rattle.tree.specs.declared.node.Node.{Node}
use Rattle.tree.specs.declared.node_use.NodeUse.{NodeUse}
use Rattle.tree.specs.declared.node_use.NodeUse.TheVariants.{NotEvaluated}
use Rattle.tree.specs.declared.node_use.ParentUse.{ParentUse}
use Rattle.tree.specs.HeldRows.{HoldsRows}
use Rattle.tree.specs.Node.{node_tree}
use Rattle.tree.specs.NodeUses.{use_in, rows_in}
use Rattle.tree.specs.Tree.{Tree, node, Parts, none, part, gap, kind_of, flags_of, start_of, stop_of, parts_of, part_count}
use Rattle.language.specs.Pieces.{Role, script}
use Rattle.language.specs.Grammar.{ways}
use Rattle.language.specs.RowPositions.{first_roles, widest, rows}
use Rattle.language.specs.Cost.{least}
use Rattle.paren_planner.specs.declared.text_pairs.TextPairs.{TextPairs}
use Rattle.pairless_laws.specs.Pairless.{IsPairless}

-- the pairs of the text, and whether they are known
abbrev pub pairs_of : TextPairs → List Pair
pairs_of t = unwrap_or (option_map (λ pairs. pairs.now) t.known) []

abbrev pub may_pass : TextPairs → Bool
may_pass t = is_some t.known

-- the pairs come in order of their `(`
abbrev pub AreOrdered : List Pair → Type 0
AreOrdered P = IsNonDecreasingBy (λ p. p.left) P

-- of a node that stands so: its rows at its position are those that it holds, and no more than a script may have; and it costs nothing
-- there if no pair opens between this place, from which its text may come, and its end
pub record IsKnown (P : List Pair) (st : NodeUse) (place : ℕ) (n : Tree) (a : Role) : Type 0 where
  pub counted : rows_in st n ≡ rows n a
  pub few : rows n a ≤ 16777216
  pub free : IsPairless P place (stop_of n) → least n a ≡ Some 0

unfoldable mutual
  -- a node that stands so is known, and each below it
  pub Passable : List Pair → NodeUse → ℕ → Tree → Role → Type 0
  Passable P st place (node k w g s e ps) a =
      IsKnown P st place (node k w g s e ps) a × PassableParts P (record { node_use = st; kind = k; flags = g }) (part_count ps) 0 s ps (first_roles (ways (widest a) (node k w g s e ps)))

  -- of so many parts those from an index on: a part's text comes from the end of the part before it on
  pub PassableParts : List Pair → ParentUse → ℕ → ℕ → ℕ → Parts → List Role → Type 0
  PassableParts P u c i place none xs = Unit {0}
  PassableParts P u c i place (gap ps) xs = PassableParts P u c (i + 1) place ps xs
  PassableParts P u c i place (part n ps) [] = Unit {0}
  PassableParts P u c i place (part n ps) (a ∷ xs) = Passable P (use_in u c i n) place n a × PassableParts P u c (i + 1) (stop_of n) ps xs

-- what a walk knows of a node of a finished tree
pub record Passing (P : List Pair) (place : ℕ) (n : Node) (a : Role) : Type 0 where
  pub ordered : AreOrdered P
  pub node_use : NodeUse
  pub rows : HoldsRows node_use n
  pub passable : Passable P node_use place (node_tree n) a

-- of its parts, from an index on
pub record PassingParts (P : List Pair) (n : Node) (i place : ℕ) (ps : Parts) (xs : List Role) : Type 0 where
  pub ordered : AreOrdered P
  pub node_use : NodeUse
  pub rows : HoldsRows node_use n
  pub passable : PassableParts P (record { node_use = node_use; kind = kind_of (node_tree n); flags = flags_of (node_tree n) }) (part_count (parts_of (node_tree n))) i place ps xs

-- of all of them, at the positions that the node's widest gives them
abbrev pub PassingBelow : List Pair → Node → Role → Type 0
PassingBelow P n a = PassingParts P n 0 (start_of (node_tree n)) (parts_of (node_tree n)) (first_roles (ways (widest a) (node_tree n)))

-- and of a script
pub record ScriptPassing (P : List Pair) (n : Tree) : Type 0 where
  pub ordered : AreOrdered P
  pub passable : Passable P NotEvaluated 0 n script
