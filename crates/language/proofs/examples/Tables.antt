-- Words to write examples of cost tables with, and a judgement of tables that computes.
use Rattle.std.specs.Prelude.{ℕ, suc, ◌-◌, Bool, true, false, not, cond, ◌&&◌, List, [], ◌∷◌, ◌++◌, nat_eq, nat_le, map, filter, codes, Option, Some, None}
use Rattle.std.specs.Str.{bytes_eq}
use Prim.Native.String.{String}
use Rattle.tree.specs.declared.kind.Kind.{Kind}
use Rattle.tree.specs.Kinds.{type_name}
use Rattle.tree.specs.Tree.{Tree, kind_of}
use Rattle.language.specs.Pieces.{Role, script}
use Rattle.language.specs.Cost.{cells}
use Rattle.language.specs.Claims.{Table, table_cell, bound_at, parts_bound, cell_bound, total_bound, row_nodes, parts_row_nodes, contexts}
use Rattle.language.proofs.examples.Trees.{computing}

-- what cost tables compute with, besides
unfoldable pub judging : ℕ
unfolding computing bound_at parts_bound cell_bound total_bound row_nodes parts_row_nodes
judging = 0

-- cells as a table's text has them, each a `-` or a digit
abbrev pub cell_of : ℕ → Option ℕ
cell_of c = cond (nat_eq c 45) None (Some (c - 48))

abbrev pub is_cell : ℕ → Bool
is_cell c = not (nat_eq c 32)

abbrev pub row : Kind → String → Kind × List (Option ℕ)
row k s = (k, map cell_of (filter is_cell (codes s)))

abbrev pub table : List (Kind × List (Option ℕ)) → ℕ → Table
table xs c = record { rows = xs; total = c }

-- the rows that the definitions give a script
abbrev pub own_row : Tree → Kind × List (Option ℕ)
own_row n = (kind_of n, cells n)

abbrev pub own_rows : Tree → List (Kind × List (Option ℕ))
own_rows n = map own_row (row_nodes n script)

-- A table passes; or this row, the first, is missing, left over or of another kind; or all are there, and this is the first
-- with no number where there is a bound, or a number above it, in that order within a row; or the total is above its bound.
pub data Judgement : Type 0 where
  passes total_high : Judgement
  misshapen none_at high_at : ℕ → Judgement

abbrev pub first_of : Judgement → Judgement → Judgement
first_of passes y = y
first_of x y = x

abbrev pub shape_judged : List (Kind × List (Option ℕ)) → List Tree → ℕ → Judgement
shape_judged [] [] r = passes
shape_judged [] (n ∷ ns) r = misshapen r
shape_judged (x ∷ xs) [] r = misshapen r
shape_judged (x ∷ xs) (n ∷ ns) r = cond (bytes_eq (type_name x.0) (type_name (kind_of n))) (shape_judged xs ns (suc r)) (misshapen r)

-- a number, or none, beside its bound
abbrev pub is_given : Option ℕ → Option ℕ → Bool
is_given None (Some b) = false
is_given _ _ = true

abbrev pub is_low : Option ℕ → Option ℕ → Bool
is_low (Some m) (Some b) = nat_le m b
is_low _ _ = true

-- every cell of a row, from this one on, beside its bound
abbrev pub every_cell : (Option ℕ → Option ℕ → Bool) → Table → Tree → ℕ → ℕ → List Role → Bool
every_cell f t n r c [] = true
every_cell f t n r c (a ∷ others) = f (table_cell t r c) (cell_bound t n a r) && every_cell f t n r (suc c) others

abbrev pub row_judged : Table → Tree → ℕ → Judgement
row_judged t n r = cond (every_cell is_given t n r 0 contexts) (cond (every_cell is_low t n r 0 contexts) passes (high_at r)) (none_at r)

abbrev pub rows_judged : Table → List Tree → ℕ → Judgement
rows_judged t [] r = passes
rows_judged t (n ∷ ns) r = first_of (row_judged t n r) (rows_judged t ns (suc r))

abbrev pub judged : Table → Tree → Judgement
judged t n =
    let nodes = row_nodes n script in
    first_of (shape_judged t.rows nodes 1) (first_of (rows_judged t nodes 1) (cond (is_low (Some t.total) (total_bound t n)) passes total_high))

-- a table's cells with one of them changed, for each number in them
abbrev pub with_each : {X : Type 0} → (List X → List X) → List (List X) → List (List X)
with_each f [] = []
with_each f (x ∷ xs) = f x ∷ with_each f xs

abbrev pub each_number : (ℕ → Option ℕ) → List (Option ℕ) → List (List (Option ℕ))
each_number f [] = []
each_number f (None ∷ xs) = with_each (λ ys. None ∷ ys) (each_number f xs)
each_number f (Some m ∷ xs) = (f m ∷ xs) ∷ with_each (λ ys. Some m ∷ ys) (each_number f xs)

abbrev pub each_row : (ℕ → Option ℕ) → List (Kind × List (Option ℕ)) → List (List (Kind × List (Option ℕ)))
each_row f [] = []
each_row f (x ∷ xs) = map (λ cs. (x.0, cs) ∷ xs) (each_number f x.1) ++ with_each (λ ys. x ∷ ys) (each_row f xs)

-- the judgements of the tables with one number raised by 1, or left out
abbrev pub all_raised : Table → Tree → List Judgement
all_raised t n = map (λ xs. judged (table xs t.total) n) (each_row (λ m. Some (suc m)) t.rows)

abbrev pub all_left_out : Table → Tree → List Judgement
all_left_out t n = map (λ xs. judged (table xs t.total) n) (each_row (λ m. None) t.rows)
