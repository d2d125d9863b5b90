-- A node costs at most as many pairs as it has rows.
use Rattle.std.proofs.Common.{◌≡◌, ℕ, ◌+◌, ◌≤◌, Bool, true, false, cond, nat_le, List, [], ◌∷◌, Option, Some, None, refl, ap, ◌∙◌, subst, arith, min}
use Rattle.tree.specs.Tree.{Tree, node, Parts, none, part, gap, parts_of}
use Rattle.language.specs.declared.Rank.{Rank}
use Rattle.language.specs.declared.Rank.TheVariants.{Expression, Member}
use Rattle.language.specs.declared.Start.{Start}
use Rattle.language.specs.declared.Start.TheVariants.{Any}
use Rattle.language.specs.Vocabulary.{precedence}
use Rattle.language.specs.Pieces.{Role, expr, PieceOf}
use Rattle.language.specs.Grammar.{ways}
use Rattle.language.specs.RowPositions.{first_roles, widest, rows, parts_rows}
use Rattle.language.specs.Layout.{some_way}
use Rattle.language.specs.Cost.{add_cost, lesser, if_any, least, parts_least, cell, cell_position}
use Rattle.cost_table.specs.Costs.{capped, capped_sum}
use Rattle.paren_planner.proofs.WrappedRows.{rows_at, rows-empty, no_roles}

pub data Below : Option ℕ → ℕ → Type 0 where
  nothing : {m : ℕ} → Below None m
  something : {m : ℕ} (c : ℕ) → c ≤ m → Below (Some c) m

below_add : {x y : Option ℕ} {m k : ℕ} → Below x m → Below y k → Below (add_cost x y) (m + k)
unfolding add_cost
below_add nothing h = nothing
below_add (something c h) nothing = nothing
below_add (something c h) (something d j) = something (c + d) (omega (arith, h, j))

below_lesser : {x y : Option ℕ} {m : ℕ} → Below x m → Below y m → Below (lesser x y) m
unfolding lesser
below_lesser nothing j = j
below_lesser (something c h) nothing = something c h
below_lesser (something c h) (something d j) = something (min c d) (omega (arith, h, j))

pub below_more : {x : Option ℕ} {m k : ℕ} → Below x m → m ≤ k → Below x k
below_more nothing j = nothing
below_more (something c h) j = something c (omega (arith, h, j))

below_any : {x : Option ℕ} {m : ℕ} (xs : List (List (PieceOf Role))) → Below x m → Below (if_any xs x) m
unfolding if_any
below_any [] h = nothing
below_any (y ∷ ys) h = h

-- a position has at most the rows of the widest one
rows_within : (b : Role) (n : Tree) (ps : Parts) → (v : Bool) → some_way (ways b n) ≡ v → parts_rows ps (first_roles (ways b n)) ≤ parts_rows ps (first_roles (ways (widest b) n))
rows_within b n ps true h = let e : parts_rows ps (first_roles (ways b n)) ≡ parts_rows ps (first_roles (ways (widest b) n)) = rows_at b n ps h in omega (arith, e)
rows_within b n ps false h = let e : parts_rows ps (first_roles (ways b n)) ≡ 0 = ap (parts_rows ps) (no_roles (ways b n) h) ∙ rows-empty ps in omega (arith, e)

way_below : (b : Role) (n : Tree) (ps : Parts) (xs : List (List (PieceOf Role))) → Below (parts_least ps (first_roles (ways b n))) (parts_rows ps (first_roles (ways b n))) → Below (if_any xs (parts_least ps (first_roles (ways b n)))) (parts_rows ps (first_roles (ways (widest b) n)))
way_below b n ps xs h = below_any xs (below_more h (rows_within b n ps (some_way (ways b n)) refl))

pub widest-cell : (y : Rank) (i : Bool) (f : Start) → widest (cell_position (expr y i f)) ≡ expr Expression true Any
widest-cell y i f = of (nat_le 21 (precedence y))
  where
    of : (b : Bool) → widest (cond b (expr Member true f) (expr Expression i f)) ≡ expr Expression true Any
    of true = refl
    of false = refl

one_one : 1 ≤ 1
one_one = omega arith

none_none : 0 ≤ 0
none_none = omega arith

one_above : (m : ℕ) → m ≤ 1 + m
one_above m = omega arith

none_above : (m : ℕ) → m ≤ 0 + m
none_above m = omega arith

mutual
  unfolding least parts_least rows parts_rows

  pub least_below : (n : Tree) (a : Role) → Below (least n a) (rows n a)
  least_below (node k w g s e ps) (expr y i f) =
      below_lesser
      (below_more
      (subst (λ b. Below (if_any (ways (expr y i f) (node k w g s e ps)) (parts_least ps (first_roles (ways (cell_position (expr y i f)) (node k w g s e ps))))) (parts_rows ps (first_roles (ways b (node k w g s e ps))))) (widest-cell y i f)
      (way_below (cell_position (expr y i f)) (node k w g s e ps) ps (ways (expr y i f) (node k w g s e ps)) (parts_below ps (first_roles (ways (cell_position (expr y i f)) (node k w g s e ps))))))
      (one_above (parts_rows ps (first_roles (ways (expr Expression true Any) (node k w g s e ps))))))
      (below_add (something 1 one_one) (way_below (expr Expression true Any) (node k w g s e ps) ps (ways (expr Expression true Any) (node k w g s e ps)) (parts_below ps (first_roles (ways (expr Expression true Any) (node k w g s e ps))))))
  least_below (node k w g s e ps) a = below_more (way_below a (node k w g s e ps) ps (ways a (node k w g s e ps)) (parts_below ps (first_roles (ways a (node k w g s e ps))))) (none_above (parts_rows ps (first_roles (ways (widest a) (node k w g s e ps)))))

  pub parts_below : (ps : Parts) (xs : List Role) → Below (parts_least ps xs) (parts_rows ps xs)
  parts_below none xs = something 0 none_none
  parts_below (gap ps) xs = parts_below ps xs
  parts_below (part n ps) [] = nothing
  parts_below (part n ps) (a ∷ xs) = below_add (least_below n a) (parts_below ps xs)

-- each cell too
pub cell_below : (n : Tree) (b : Role) → Below (cell n b) (parts_rows (parts_of n) (first_roles (ways (widest b) n)))
unfolding cell
cell_below n b = way_below b n (parts_of n) (ways b n) (parts_below (parts_of n) (first_roles (ways b n)))

-- What is below the limit is held as it is.

pub capped_below : {x : Option ℕ} → Below x 16777216 → capped x ≡ x
unfolding capped
capped_below nothing = refl
capped_below (something c h) = let e : min c 4294967295 ≡ c = omega (arith, h) in ap (λ k. Some k) e

pub sum_below : {x : Option ℕ} → Below x 16777216 → capped_sum (Some 1) x ≡ add_cost (Some 1) x
unfolding capped_sum capped add_cost
sum_below nothing = refl
sum_below (something c h) = let e : min (1 + c) 4294967295 ≡ 1 + c = omega (arith, h) in ap (λ k. Some k) e

pub rows_inner : (n : Tree) (y : Rank) (i : Bool) (f : Start) → rows n (expr y i f) ≡ 1 + parts_rows (parts_of n) (first_roles (ways (expr Expression true Any) n))
unfolding rows
rows_inner (node k w g s e ps) y i f = refl
