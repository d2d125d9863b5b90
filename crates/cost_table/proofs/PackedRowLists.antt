-- Rows that are packed: one more whose numbers stand apart, and all the other way round.
use Rattle.std.proofs.Common.{◌≡◌, ℕ, ◌<◌, ◌≤◌, List, [], ◌∷◌, ◌++◌, length, reverse, Option, Some, None, Ok, Err, refl, sym, ap, ◌∙◌, subst, arith, append_assoc}
use Rattle.std.specs.Prelude.{All, map, option_map, slice_get, slice_index_or, Result, OnErr}
use Rattle.std.proofs.lemmas.Option.{slice_get-map, slice_get_read}
use Rattle.std.proofs.lemmas.List.{length-map, map-append, map_push, reverse-append, reverse-reverse, get_or_append_left, get_or_push}
use Rattle.std.proofs.lemmas.List.Elements.{All-nil, All-cons, All-append, All-head, All-tail}
use Rattle.tree.specs.declared.kind.Kind.{Kind}
use Rattle.cost_table.specs.declared.costs.Costs as own
use Rattle.cost_table.specs.declared.packed_row.CellShape.{CellShape}
use Rattle.cost_table.specs.declared.packed_row.Place.{Place}
use Rattle.cost_table.specs.declared.packed_row.PackedRow.{PackedRow}
use Rattle.cost_table.specs.declared.packed_row.PackedRow.TheVariants.{Same, Apart}
use Rattle.cost_table.specs.Costs.{eight, same_everywhere}
use Rattle.cost_table.specs.Packed.{index_of, shaped, unpacked, IsPacked}
use Rattle.cost_table.specs.Rows.{row_with, shown}

-- One more row

row_kept : (cs : List own.Costs) (c : own.Costs) (p : PackedRow) → IsPacked (length cs) p → unpacked (cs ++ c ∷ []) p ≡ unpacked cs p
row_kept cs c (Same k s m) h = refl
row_kept cs c (Apart k p) h = ap (row_with k) (get_or_append_left cs (c ∷ []) (same_everywhere None) (index_of p) h)

-- numbers that stand apart behind the others change no row
pub rows_kept : (cs : List own.Costs) (c : own.Costs) (ps : List PackedRow) → All (IsPacked (length cs)) ps → map (unpacked (cs ++ c ∷ [])) ps ≡ map (unpacked cs) ps
rows_kept cs c [] h = refl
rows_kept cs c (p ∷ ps) h =
    λ j. row_kept cs c p (All-head (IsPacked (length cs)) p ps h) j ∷ rows_kept cs c ps (All-tail (IsPacked (length cs)) p ps h) j

pub apart_pushed : (cs ds : List own.Costs) (c : own.Costs) (ps qs : List PackedRow) (k : Kind) (i : Place) → All (IsPacked (length cs)) ps → ds ≡ cs ++ c ∷ [] → index_of i ≡ length cs → qs ≡ ps ++ Apart k i ∷ [] →
    map (unpacked ds) qs ≡ map (unpacked cs) ps ++ row_with k c ∷ []
apart_pushed cs ds c ps qs k i h e n q =
    (λ j. map (unpacked (e j)) (q j))
    ∙ map_push (unpacked (cs ++ c ∷ [])) ps (Apart k i)
    ∙ (λ j. rows_kept cs c ps h j ++ row_with k (get_or_push cs c (same_everywhere None) (index_of i) (sym n) j) ∷ [])

pub pushed_order : {X : Type 0} (ts ps qs : List X) (x : X) → qs ≡ ps ++ x ∷ [] → reverse ts ++ qs ≡ (reverse ts ++ ps) ++ x ∷ []
pushed_order ts ps qs x e = ap (λ us. reverse ts ++ us) e ∙ sym (append_assoc (reverse ts) ps (x ∷ []))

pub one_more_packed : (n : ℕ) (ts ps qs : List PackedRow) (x : PackedRow) → All (IsPacked n) (reverse ts ++ ps) → qs ≡ ps ++ x ∷ [] → IsPacked n x → All (IsPacked n) (reverse ts ++ qs)
one_more_packed n ts ps qs x h e i = subst (All (IsPacked n)) (sym (pushed_order ts ps qs x e)) (All-append (IsPacked n) (reverse ts ++ ps) (x ∷ []) h (All-cons (IsPacked n) x [] i (All-nil (IsPacked n))))

in_more : (n m : ℕ) (p : PackedRow) → n ≤ m → IsPacked n p → IsPacked m p
in_more n m (Same k s c) l h = h
in_more n m (Apart k p) l h = omega (arith, l, h)

-- what is said of numbers apart holds of more of them
pub all_in_more : (n m : ℕ) (ps : List PackedRow) → n ≤ m → All (IsPacked n) ps → All (IsPacked m) ps
all_in_more n m [] l h = All-nil (IsPacked m)
all_in_more n m (p ∷ ps) l h = All-cons (IsPacked m) p ps (in_more n m p l (All-head (IsPacked n) p ps h)) (all_in_more n m ps l (All-tail (IsPacked n) p ps h))

-- The other way round

pub map-turned : {X Y : Type 0} (f : X → Y) (xs : List X) → map f (reverse xs) ≡ reverse (map f xs)
map-turned f [] = refl
map-turned f (x ∷ xs) =
    ap (map f) (reverse-append (x ∷ []) xs) ∙ map-append f (reverse xs) (x ∷ []) ∙ ap (λ ys. ys ++ f x ∷ []) (map-turned f xs) ∙ sym (reverse-append (f x ∷ []) (map f xs))

pub turned_order : {X : Type 0} (ts ps : List X) → reverse ps ++ ts ≡ reverse (reverse ts ++ ps)
turned_order ts ps = ap (λ us. reverse ps ++ us) (sym (reverse-reverse ts)) ∙ sym (reverse-append (reverse ts) ps)

pub All-turned : {X : Type 0} (P : X → Type 0) (xs : List X) → All P xs → All P (reverse xs)
All-turned P [] h = h
All-turned P (x ∷ xs) h =
    subst (All P) (sym (reverse-append (x ∷ []) xs)) (All-append P (reverse xs) (x ∷ []) (All-turned P xs (All-tail P x xs h)) (All-cons P x [] (All-head P x xs h) (All-nil P)))

-- A row by its index

pub zeros_found : (apart : List own.Costs) (qs : List PackedRow) (i n : ℕ) (p : PackedRow) (k j : Kind) (s : CellShape) (m : ℕ) (xs : List (Option ℕ)) → n ≡ length (map (unpacked apart) qs) → i < n → p ≡ slice_index_or qs i p → p ≡ Same k s m → m ≡ 0 → k ≡ j →
    eight (shaped s 0) ≡ xs → slice_get (map shown (map (unpacked apart) qs)) i ≡ Some (j, xs)
zeros_found apart qs i n p k j s m xs l h a e z same zeros =
    slice_get-map shown (map (unpacked apart) qs) i
    ∙ ap (option_map shown) (slice_get-map (unpacked apart) qs i ∙ ap (option_map (unpacked apart)) (slice_get_read qs n i p (l ∙ length-map qs (unpacked apart)) h a ∙ ap (λ x. Some x) e))
    ∙ (λ t. Some (k, eight (shaped s (z t)))) ∙ (λ t. Some (same t, zeros t))

-- After a refusal

pub on_err : {A E : Type 0} (r : Result A E) {P : Type 0} → P → OnErr r P
on_err (Ok a) h = tt
on_err (Err e) h = h
