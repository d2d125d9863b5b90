-- The first and the last of the rows in a node, and how many they are.
use Rattle.std.proofs.Common.{◌≡◌, ℕ, zero, suc, ◌+◌, ◌-◌, ◌≤◌, Bool, true, false, cond, Option, Some, None, refl, sym, ap, ◌∙◌, arith}
use Rattle.std.specs.Prelude.{is_some}
use Rattle.tree.specs.Tree.{Tree, kind_of, flags_of, parts_of, part_count, part_at}
use Rattle.tree.specs.declared.flat_ref.FlatRef.{FlatRef}
use Rattle.tree.specs.declared.node_use.NodeUse.{NodeUse}
use Rattle.tree.specs.declared.node_use.ParentUse.{ParentUse}
use Rattle.tree.specs.NodeUses.{has_row, own_rows, rows_in, parts_rows, rows_before}
use Rattle.tree.specs.Places.{place_tree, place_row}
use Rattle.tree.specs.HeldRows.{PlaceHoldsRows, PlaceHoldsRowsFrom, use_below, row_below, first_number, last_number}
use Rattle.tree.proofs.PartWalk.{parts_drop}
use Rattle.tree.proofs.RowNumbers.{rows_in_parts, rows_before-part, rows_before-gap, rows_before-all, rows_before-rest}

abbrev around_of : NodeUse → Tree → ParentUse
around_of a t = record { node_use = a; kind = kind_of t; flags = flags_of t }

-- the rows in a node's parts before a place, and those in all
abbrev passed : NodeUse → Tree → ℕ → ℕ
passed a t i = rows_before (around_of a t) (part_count (parts_of t)) i (parts_of t)

abbrev below : NodeUse → Tree → ℕ
below a t = parts_rows (around_of a t) (part_count (parts_of t)) 0 (parts_of t)

-- neither a node itself nor its parts before a place have rows
pub record NoneBefore (a : NodeUse) (t : Tree) (i : ℕ) : Type 0 where
  pub none : own_rows a (kind_of t) + passed a t i ≡ 0

-- nor have its parts from a place on
pub record NoneBehind (a : NodeUse) (t : Tree) (i : ℕ) : Type 0 where
  pub none : passed a t i ≡ below a t

-- Numbers

some_first : (r m : ℕ) (o : Option ℕ) → o ≡ first_number r m → is_some o ≡ true → (k : ℕ) × ((m ≡ suc k) × (o ≡ Some r))
some_first r zero o e s = absurd (cc)
some_first r (suc k) o e s = (k, (refl, e))

pub no_first : (r m : ℕ) (o : Option ℕ) → o ≡ first_number r m → is_some o ≡ false → m ≡ 0
no_first r zero o e s = refl
no_first r (suc k) o e s = absurd (cc)

some_last : (r m : ℕ) (o : Option ℕ) → o ≡ last_number r m → is_some o ≡ true → (k : ℕ) × ((m ≡ suc k) × (o ≡ Some (r + k)))
some_last r zero o e s = absurd (cc)
some_last r (suc k) o e s = (k, (refl, e))

pub no_last : (r m : ℕ) (o : Option ℕ) → o ≡ last_number r m → is_some o ≡ false → m ≡ 0
no_last r zero o e s = refl
no_last r (suc k) o e s = absurd (cc)

-- The node's own

held_own : (a : NodeUse) (r : ℕ) (p : FlatRef) → PlaceHoldsRowsFrom a r p → place_row p ≡ cond (has_row a (kind_of (place_tree p))) (Some r) None
held_own a r p h = h.0.own_row ∙ ap (λ i. cond (has_row a (kind_of (place_tree p))) (Some i) None) h.1

is_last : (b : Bool) (r m : ℕ) (o : Option ℕ) → o ≡ cond b (Some r) None → m ≡ cond b 1 0 → o ≡ last_number r m
is_last true r m o e k =
    let one : m ≡ suc 0 = k in
    let at : r ≡ r + 0 = omega arith in
    e ∙ ap Some at ∙ sym (ap (last_number r) one)
is_last false r m o e k = e ∙ sym (ap (last_number r) k)

pub own_last : (p : FlatRef) (o : Option ℕ) → o ≡ place_row p → (a : NodeUse) (r : ℕ) → PlaceHoldsRowsFrom a r p → NoneBehind a (place_tree p) 0 → o ≡ last_number r (rows_in a (place_tree p))
own_last p o e a r h n =
    let t = place_tree p in
    let all : rows_in a t ≡ own_rows a (kind_of t) = omega (arith, rows_in_parts a t, n.none) in
    is_last (has_row a (kind_of t)) r (rows_in a t) o (e ∙ held_own a r p h) all

-- From the first part to the last

pub gap_before : (a : NodeUse) (t : Tree) (i : ℕ) → None ≡ part_at (parts_of t) i → NoneBefore a t i → NoneBefore a t (i + 1)
gap_before a t i e n = record { none = omega (arith, n.none, rows_before-gap (around_of a t) (part_count (parts_of t)) i (parts_of t) e) }

pub part_before : (a : NodeUse) (t : Tree) (i : ℕ) (u : Tree) → Some u ≡ part_at (parts_of t) i → rows_in (use_below a t i u) u ≡ 0 → NoneBefore a t i → NoneBefore a t (i + 1)
part_before a t i u e m n = record { none = omega (arith, n.none, m, rows_before-part (around_of a t) (part_count (parts_of t)) i (parts_of t) u e) }

pub found_first : (a : NodeUse) (r : ℕ) (t : Tree) (i : ℕ) (u : Tree) (o : Option ℕ) → Some u ≡ part_at (parts_of t) i → NoneBefore a t i →
    o ≡ first_number (row_below a r t i) (rows_in (use_below a t i u) u) → is_some o ≡ true → o ≡ first_number r (rows_in a t)
found_first a r t i u o e n f s =
    let A = around_of a t in
    let c = part_count (parts_of t) in
    let x = some_first (row_below a r t i) (rows_in (use_below a t i u) u) o f s in
    let rest = parts_rows A c (i + 1) (parts_drop (i + 1) (parts_of t)) in
    let all : rows_in a t ≡ suc (x.0 + rest) = omega (arith, rows_in_parts a t, n.none, x.1.0, rows_before-part A c i (parts_of t) u e, rows_before-rest A c (i + 1) (parts_of t)) in
    let at : row_below a r t i ≡ r = omega (arith, n.none) in
    x.1.1 ∙ ap Some at ∙ sym (ap (first_number r) all)

pub none_first : (a : NodeUse) (r : ℕ) (t : Tree) (i : ℕ) → part_count (parts_of t) ≤ i → NoneBefore a t i → None ≡ first_number r (rows_in a t)
none_first a r t i l n =
    let all : rows_in a t ≡ 0 = omega (arith, rows_in_parts a t, n.none, rows_before-all (around_of a t) (part_count (parts_of t)) i (parts_of t) l) in
    sym (ap (first_number r) all)

-- From the last part to the first

pub none_behind : (a : NodeUse) (t : Tree) (i : ℕ) → part_count (parts_of t) ≤ i → NoneBehind a t i
none_behind a t i l = record { none = rows_before-all (around_of a t) (part_count (parts_of t)) i (parts_of t) l }

pub gap_behind : (a : NodeUse) (t : Tree) (i : ℕ) → None ≡ part_at (parts_of t) i → NoneBehind a t (i + 1) → NoneBehind a t i
gap_behind a t i e n = record { none = omega (arith, n.none, rows_before-gap (around_of a t) (part_count (parts_of t)) i (parts_of t) e) }

pub part_behind : (a : NodeUse) (t : Tree) (i : ℕ) (u : Tree) → Some u ≡ part_at (parts_of t) i → rows_in (use_below a t i u) u ≡ 0 → NoneBehind a t (i + 1) → NoneBehind a t i
part_behind a t i u e m n = record { none = omega (arith, n.none, m, rows_before-part (around_of a t) (part_count (parts_of t)) i (parts_of t) u e) }

pub found_last : (a : NodeUse) (r : ℕ) (t : Tree) (i : ℕ) (u : Tree) (o : Option ℕ) → Some u ≡ part_at (parts_of t) i → NoneBehind a t (i + 1) →
    o ≡ last_number (row_below a r t i) (rows_in (use_below a t i u) u) → is_some o ≡ true → o ≡ last_number r (rows_in a t)
found_last a r t i u o e n f s =
    let x = some_last (row_below a r t i) (rows_in (use_below a t i u) u) o f s in
    let before = own_rows a (kind_of t) + passed a t i in
    let all : rows_in a t ≡ suc (before + x.0) = omega (arith, rows_in_parts a t, n.none, x.1.0, rows_before-part (around_of a t) (part_count (parts_of t)) i (parts_of t) u e) in
    let at : row_below a r t i + x.0 ≡ r + (before + x.0) = omega arith in
    x.1.1 ∙ ap Some at ∙ sym (ap (last_number r) all)

-- How many they are

pub none_by_first : (a : NodeUse) (p : FlatRef) → ((r : ℕ) → PlaceHoldsRowsFrom a r p → None ≡ first_number r (rows_in a (place_tree p))) → PlaceHoldsRows a p → 0 ≡ rows_in a (place_tree p)
none_by_first a p f h = sym (no_first h.row (rows_in a (place_tree p)) None (f h.row (h, refl)) refl)

pub none_by_last : (a : NodeUse) (p : FlatRef) → ((r : ℕ) → PlaceHoldsRowsFrom a r p → None ≡ last_number r (rows_in a (place_tree p))) → PlaceHoldsRows a p → 0 ≡ rows_in a (place_tree p)
none_by_last a p l h = sym (no_last h.row (rows_in a (place_tree p)) None (l h.row (h, refl)) refl)

rows_between : (r m first last : ℕ) → Some first ≡ first_number r m → Some last ≡ last_number r m → (last - first) + 1 ≡ m
rows_between r zero first last f l = absurd (cc)
rows_between r (suc k) first last f l =
    let one : first ≡ r = cc in
    let other : last ≡ r + k = cc in
    omega (arith, one, other)

pub counted : (a : NodeUse) (p : FlatRef) (first last : ℕ) → ((r : ℕ) → PlaceHoldsRowsFrom a r p → Some first ≡ first_number r (rows_in a (place_tree p))) →
    ((r : ℕ) → PlaceHoldsRowsFrom a r p → Some last ≡ last_number r (rows_in a (place_tree p))) → PlaceHoldsRows a p → (last - first) + 1 ≡ rows_in a (place_tree p)
counted a p first last f l h = rows_between h.row (rows_in a (place_tree p)) first last (f h.row (h, refl)) (l h.row (h, refl))
