-- The row of each grouping pair's node, found by where the nodes with rows start.
use Rattle.std.specs.Prelude.{◌≡◌, ◌≤◌, ℕ, suc, Bool, false, cond, nat_eq, nat_lt, List, [], ◌∷◌, Option, Some, None, map, drop}
use Rattle.std.specs.List.{range_with_len}
use Rattle.tree.specs.Tree.{Tree, start_of, node_total}
use Rattle.tree.specs.Flat.{post_order}
use Rattle.tree.specs.NodeUses.{rows_of}
use Rattle.tree.specs.declared.kind.Pair.{Pair}
use Rattle.spellings.specs.declared.pairs.PairRow.{PairRow}

-- a node holds the row with this number; None: it holds no row
abbrev pub holds_row : Option ℕ → ℕ → Bool
holds_row None r = false
holds_row (Some q) r = nat_eq q r

-- where the last of these nodes that holds the row starts, by the rows that they hold; this place where none of them does
abbrev pub start_among : List (Option ℕ) → List Tree → ℕ → ℕ → ℕ
start_among [] ns r s = s
start_among (q ∷ qs) [] r s = s
start_among (q ∷ qs) (n ∷ ns) r s = start_among qs ns r (cond (holds_row q r) (start_of n) s)

-- where the row of a script with this number starts; 0, behind no place, where no node holds it
abbrev pub row_start : Tree → ℕ → ℕ
row_start n r = start_among (rows_of n) (post_order n) r 0

-- where the rows of a script start: those with the numbers from 1 on, as many as it has nodes
abbrev pub row_starts : Tree → List ℕ
row_starts n = map (row_start n) (range_with_len 1 (node_total n))

-- the number of the first of these rows that starts behind a place, the first of all having the number r; 0 where there is none
abbrev pub row_after : List ℕ → ℕ → ℕ → ℕ
row_after [] at r = 0
row_after (s ∷ ss) at r = cond (nat_lt at s) r (row_after ss at (suc r))

-- a pair with the row of its node: the first that starts behind its `(`
abbrev pub grouping : List ℕ → Pair → PairRow
grouping ss p = record { left = p.left; right = p.right; row = row_after ss p.left 1 }

-- the number of the row with an index, of so many rows; 0 where there is none
abbrev pub row_at : ℕ → ℕ → ℕ
row_at count i = cond (nat_lt i count) (suc i) 0

-- the first row behind the place, or behind a later one, has this index or a greater one
abbrev pub Passed : List ℕ → ℕ → ℕ → Type 0
Passed ss i at = (p : ℕ) → at ≤ p → row_after ss p 1 ≡ row_after (drop i ss) p (suc i)
