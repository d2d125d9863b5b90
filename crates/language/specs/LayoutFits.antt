-- Trees that can be spelled with these nodes wrapped: what the layout asks for.
use Rattle.std.specs.Prelude.{◌≡◌, ℕ, ◌+◌, Bool, true, false, ◌&&◌, nat_eq, List, [], ◌∷◌}
use Rattle.tree.specs.Tree.{Tree, node, Parts, none, part, gap}
use Rattle.language.specs.Pieces.{Role, PieceOf, sub, absent, is_none}
use Rattle.language.specs.Grammar.{ways}
use Rattle.language.specs.RowPositions.{has_row, rows, first_roles}
use Rattle.language.specs.Layout.{some_way, wants_pair, inside, first_way}

-- the pieces name these parts, and their gaps
abbrev pub lines_up : List (PieceOf Role) → Parts → Bool
lines_up [] parts = is_none parts
lines_up (sub a ∷ qs) none = false
lines_up (sub a ∷ qs) (gap rest) = false
lines_up (sub a ∷ qs) (part tree rest) = lines_up qs rest
lines_up (absent ∷ qs) none = false
lines_up (absent ∷ qs) (gap rest) = lines_up qs rest
lines_up (absent ∷ qs) (part tree rest) = false
lines_up (_ ∷ qs) parts = lines_up qs parts

unfoldable mutual
  -- each node can be spelled where it stands, with these nodes wrapped
  pub fits : (ℕ → Bool) → Tree → Role → ℕ → Bool
  fits W (node kind text flags from to parts) role r =
      let b = nat_eq (has_row role) 1 && W r in
      let qss = ways (inside b role) (node kind text flags from to parts) in
      some_way qss && (lines_up (first_way qss) parts && parts_fit W parts (first_roles qss) (has_row role + r))

  pub parts_fit : (ℕ → Bool) → Parts → List Role → ℕ → Bool
  parts_fit W none xs r = true
  parts_fit W (gap rest) xs r = parts_fit W rest xs r
  parts_fit W (part tree rest) [] r = false
  parts_fit W (part tree rest) (a ∷ xs) r = fits W tree a r && parts_fit W rest xs (r + rows tree a)

unfoldable mutual
  -- of the rows of a node at a position, from this row on, the test passes just those of the wrapped nodes
  pub Marks : (ℕ → Bool) → Tree → Role → ℕ → Type 0
  Marks W (node kind text flags from to parts) role r =
      let b = wants_pair (node kind text flags from to parts) role in
      ((nat_eq (has_row role) 1 && W r) ≡ b) × PartsMark W parts (first_roles (ways (inside b role) (node kind text flags from to parts))) (has_row role + r)

  pub PartsMark : (ℕ → Bool) → Parts → List Role → ℕ → Type 0
  PartsMark W none xs r = Unit {0}
  PartsMark W (gap rest) xs r = PartsMark W rest xs r
  PartsMark W (part tree rest) [] r = Unit {0}
  PartsMark W (part tree rest) (a ∷ xs) r = Marks W tree a r × PartsMark W rest xs (r + rows tree a)
