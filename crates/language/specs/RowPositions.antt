-- The positions of a node's parts, and the rows of a cost table: one for each node at an expression's position.
use Rattle.std.specs.Prelude.{ℕ, ◌+◌, true, List, [], ◌∷◌}
use Rattle.language.specs.declared.Rank.TheVariants.{Expression}
use Rattle.language.specs.declared.Start.TheVariants.{Any}
use Rattle.tree.specs.Tree.{Tree, node, Parts, none, part, gap}
use Rattle.language.specs.Pieces.{Role, expr, chain_part, pattern, PieceOf, sub}
use Rattle.language.specs.Grammar.{ways}

-- the positions of a node's parts
abbrev pub roles : List (PieceOf Role) → List Role
roles [] = []
roles (sub a ∷ qs) = a ∷ roles qs
roles (_ ∷ qs) = roles qs

abbrev pub first_roles : List (List (PieceOf Role)) → List Role
first_roles [] = []
first_roles (qs ∷ others) = roles qs

abbrev pub has_row : Role → ℕ
has_row (expr rank has_in start) = 1
has_row _ = 0

-- the position with all that a spelling may depend on left open
abbrev pub widest : Role → Role
widest (expr rank has_in start) = expr Expression true Any
widest (chain_part f) = chain_part Any
widest (pattern b f) = pattern b Any
widest role = role

unfoldable mutual
  -- the number of rows in a node at a position, its own included
  pub rows : Tree → Role → ℕ
  rows (node kind text flags from to parts) role = has_row role + parts_rows parts (first_roles (ways (widest role) (node kind text flags from to parts)))

  pub parts_rows : Parts → List Role → ℕ
  parts_rows none xs = 0
  parts_rows (gap rest) xs = parts_rows rest xs
  parts_rows (part tree rest) [] = 0
  parts_rows (part tree rest) (a ∷ xs) = rows tree a + parts_rows rest xs
