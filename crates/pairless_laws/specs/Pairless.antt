-- Nodes in whose text no grouping pair opens.
use Rattle.std.specs.Prelude.{◌≡◌, ℕ, ◌≤◌, ◌<◌, List, [], ◌∷◌, Some, ◌⊎◌}
use Rattle.tree.specs.declared.kind.Pair.{Pair}
use Rattle.tree.specs.Tree.{Tree, node, Parts, none, part, gap, stop_of}
use Rattle.language.specs.Pieces.{Role}
use Rattle.language.specs.Grammar.{ways}
use Rattle.language.specs.RowPositions.{first_roles, widest}
use Rattle.language.specs.Derivation.{Among}
use Rattle.language.specs.Cost.{least}

-- no pair's `(` stands from the first place on and before the second
abbrev pub IsPairless : List Pair → ℕ → ℕ → Type 0
IsPairless P from to = (p : Pair) → Among p P → (p.left < from) ⊎ (to ≤ p.left)

unfoldable mutual
  -- A node costs no pair at its position if no pair opens between the place from which its text may come and its end: none is in it, and
  -- none is round it, since a pair round a node opens before the node's start, but not before that place. The same holds of each node
  -- below it, at the position that the widest position of the node above gives it.
  pub PairlessAreFree : List Pair → ℕ → Tree → Role → Type 0
  PairlessAreFree P place (node kind text flags from to parts) role =
      (IsPairless P place to → least (node kind text flags from to parts) role ≡ Some 0) × PairlessPartsAreFree P from parts (first_roles (ways (widest role) (node kind text flags from to parts)))

  -- a part's text comes from the end of the part before it on, gaps aside; that of the first, from the start of the node above
  pub PairlessPartsAreFree : List Pair → ℕ → Parts → List Role → Type 0
  PairlessPartsAreFree P place none xs = Unit {0}
  PairlessPartsAreFree P place (gap rest) xs = PairlessPartsAreFree P place rest xs
  PairlessPartsAreFree P place (part tree rest) [] = Unit {0}
  PairlessPartsAreFree P place (part tree rest) (a ∷ xs) = PairlessAreFree P place tree a × PairlessPartsAreFree P (stop_of tree) rest xs

unfoldable mutual
  -- Each node in whose span no pair opens costs no pair at its widest position. Every position but that of an expression, of a part of a
  -- chain and of a pattern is its own widest. A pair round an expression opens before its span, so of an expression this says what it
  -- costs in a pair.
  pub PairlessSpansAreFree : List Pair → Tree → Role → Type 0
  PairlessSpansAreFree P (node kind text flags from to parts) role =
      (IsPairless P from to → least (node kind text flags from to parts) (widest role) ≡ Some 0) × PairlessPartSpansAreFree P parts (first_roles (ways (widest role) (node kind text flags from to parts)))

  pub PairlessPartSpansAreFree : List Pair → Parts → List Role → Type 0
  PairlessPartSpansAreFree P none xs = Unit {0}
  PairlessPartSpansAreFree P (gap rest) xs = PairlessPartSpansAreFree P rest xs
  PairlessPartSpansAreFree P (part tree rest) [] = Unit {0}
  PairlessPartSpansAreFree P (part tree rest) (a ∷ xs) = PairlessSpansAreFree P tree a × PairlessPartSpansAreFree P rest xs
