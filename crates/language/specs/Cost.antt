-- The cost of a node: the least number of grouping pairs by recursion on the tree.
use Rattle.std.specs.Prelude.{ℕ, ◌+◌, ◌≤◌, true, false, cond, List, [], ◌∷◌, nat_le, Option, Some, None, min}
use Rattle.language.specs.declared.Rank.TheVariants.{Expression, Member}
use Rattle.language.specs.declared.Start.TheVariants.{Any, NoBrace, Statement}
use Rattle.tree.specs.Tree.{Tree, node, Parts, none, part, gap, parts_of}
use Rattle.language.specs.Vocabulary.{precedence}
use Rattle.language.specs.Pieces.{Role, expr}
use Rattle.language.specs.Grammar.{ways}
use Rattle.language.specs.RowPositions.{first_roles}

unfoldable pub add_cost : Option ℕ → Option ℕ → Option ℕ
add_cost None y = None
add_cost (Some m) None = None
add_cost (Some m) (Some n) = Some (m + n)

unfoldable pub lesser : Option ℕ → Option ℕ → Option ℕ
lesser None y = y
lesser (Some m) None = Some m
lesser (Some m) (Some n) = Some (min m n)

-- the bound is met: none is greater than any number
pub data AtMost : Option ℕ → ℕ → Type 0 where
  at_most : {m n : ℕ} → m ≤ n → AtMost (Some m) n

-- the cost, where there is a way
unfoldable pub if_any : {X : Type 0} → List X → Option ℕ → Option ℕ
if_any [] x = None
if_any (y ∷ ys) x = x

-- the position of the cell that counts at a position
abbrev pub cell_position : Role → Role
cell_position (expr rank has_in start) = cond (nat_le 21 (precedence rank)) (expr Member true start) (expr Expression has_in start)
cell_position role = role

unfoldable mutual
  -- the least number of pairs of a node at a position
  pub least : Tree → Role → Option ℕ
  least (node kind text flags from to parts) (expr rank has_in start) =
      lesser
      (if_any (ways (expr rank has_in start) (node kind text flags from to parts)) (parts_least parts (first_roles (ways (cell_position (expr rank has_in start)) (node kind text flags from to parts)))))
      (add_cost (Some 1) (if_any (ways (expr Expression true Any) (node kind text flags from to parts)) (parts_least parts (first_roles (ways (expr Expression true Any) (node kind text flags from to parts))))))
  least (node kind text flags from to parts) role = if_any (ways role (node kind text flags from to parts)) (parts_least parts (first_roles (ways role (node kind text flags from to parts))))

  pub parts_least : Parts → List Role → Option ℕ
  parts_least none xs = Some 0
  parts_least (gap rest) xs = parts_least rest xs
  parts_least (part tree rest) [] = None
  parts_least (part tree rest) (a ∷ xs) = add_cost (least tree a) (parts_least rest xs)

-- the cell of a node at a position: the number of pairs inside the node, spelled directly there
unfoldable pub cell : Tree → Role → Option ℕ
cell tree role = if_any (ways role tree) (parts_least (parts_of tree) (first_roles (ways role tree)))

unfoldable pub cells : Tree → List (Option ℕ)
cells tree =
    cell tree (expr Expression true Any) ∷ cell tree (expr Expression true NoBrace) ∷ cell tree (expr Expression true Statement) ∷
    cell tree (expr Expression false Any) ∷ cell tree (expr Expression false NoBrace) ∷
    cell tree (expr Member true Any) ∷ cell tree (expr Member true NoBrace) ∷ cell tree (expr Member true Statement) ∷ []
