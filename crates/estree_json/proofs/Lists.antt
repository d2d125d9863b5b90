-- The values of a node's parts, by their places.
use Rattle.std.proofs.Common.{◌≡◌, ℕ, zero, suc, ◌+◌, ◌-◌, ◌<◌, ◌≤◌, max, Bool, true, false, List, [], ◌∷◌, length, take, drop, Some, None, refl, sym, ap, ◌∙◌, arith, add-one, nat_eq, inl, inr}
use Rattle.std.proofs.lemmas.Bool.Decides.{eqb_tells}
use Rattle.std.proofs.lemmas.List.{length-drop, length-take, drop-drop}
use Rattle.std.specs.Int.{div_ceil}
use Rattle.serde_json.specs.Data.{Data, null, array}
use Rattle.serde_json.specs.View.{items_of}
use Rattle.serde_json.specs.Events.{items_len}
use Rattle.tree.specs.Tree.{Tree, Parts, none, part, gap, parts_of, part_at, part_count}
use Rattle.tree.proofs.PartWalk.{parts_drop, parts_drop-some, parts_drop-past}
use Rattle.estree_json.specs.Json.{first_or_null, odd_ones, ends_parts, node_json, parts_json}
use Rattle.estree_json.specs.Table.{from}

more_left : (ps : Parts) (i : ℕ) → i < part_count ps → ends_parts (parts_drop i ps) ≡ false
more_left none i l = absurd (omega (arith, l))
more_left (part t ps) zero l = refl
more_left (part t ps) (suc i) l = more_left ps i (omega (arith, l))
more_left (gap ps) zero l = refl
more_left (gap ps) (suc i) l = more_left ps i (omega (arith, l))

-- a place is the last one just where nothing is left behind it
pub is_end : (ps : Parts) (i : ℕ) → i < part_count ps → nat_eq (i + 1) (part_count ps) ≡ ends_parts (parts_drop (i + 1) ps)
is_end ps i l = elim (eqb_tells (i + 1) (part_count ps)) [
  | inl w ↦ w.0 ∙ sym (ap ends_parts (parts_drop-past ps (i + 1) (omega (arith, w.1))))
  | inr w ↦ w.0 ∙ sym (more_left ps (i + 1) (omega (arith, l, w.1)))
]

pub left_some : (ps : Parts) (i : ℕ) (u : Tree) → Some u ≡ part_at ps i → parts_json (parts_drop i ps) ≡ node_json (ends_parts (parts_drop (i + 1) ps)) u ∷ parts_json (parts_drop (i + 1) ps)
unfolding parts_json
left_some ps i u e = ap parts_json (parts_drop-some ps i u e)

drop_one : (n : ℕ) (ds : List Data) → drop 1 (drop n ds) ≡ drop (suc n) ds
drop_one zero ds = refl
drop_one (suc n) [] = refl
drop_one (suc n) (d ∷ ds) = drop_one n ds

pub from_is_drop : (n : ℕ) (ds : List Data) → from n ds ≡ drop n ds
from_is_drop zero ds = refl
from_is_drop (suc n) ds = ap (drop 1) (from_is_drop n ds) ∙ drop_one n ds

pub count_json : (ps : Parts) → length (parts_json ps) ≡ part_count ps
unfolding parts_json
count_json none = refl
count_json (part t ps) = omega (arith, count_json ps)
count_json (gap ps) = omega (arith, count_json ps)

drop_json : (i : ℕ) (ps : Parts) → drop i (parts_json ps) ≡ parts_json (parts_drop i ps)
unfolding parts_json
drop_json zero ps = refl
drop_json (suc i) none = refl
drop_json (suc i) (part t ps) = drop_json i ps
drop_json (suc i) (gap ps) = drop_json i ps

within : (ps : Parts) (i : ℕ) (u : Tree) → Some u ≡ part_at ps i → i < part_count ps
within none i u e = absurd (cc)
within (part t ps) zero u e = omega arith
within (part t ps) (suc i) u e = omega (arith, within ps i u e)
within (gap ps) zero u e = absurd (cc)
within (gap ps) (suc i) u e = omega (arith, within ps i u e)

last_one : (ps : Parts) (i : ℕ) → i < part_count ps → nat_eq (part_count ps - 1) i ≡ ends_parts (parts_drop (i + 1) ps)
last_one ps i l = elim (eqb_tells (part_count ps - 1) i) [
  | inl w ↦ elim (eqb_tells (i + 1) (part_count ps)) [
    | inl v ↦ w.0 ∙ sym v.0 ∙ is_end ps i l
    | inr v ↦ absurd (omega (arith, l, w.1, v.1))
  ]
  | inr w ↦ elim (eqb_tells (i + 1) (part_count ps)) [
    | inl v ↦ absurd (omega (arith, l, w.1, v.1))
    | inr v ↦ w.0 ∙ sym v.0 ∙ is_end ps i l
  ]
]

-- the value of a part that is there
pub part_found : (t u : Tree) (i : ℕ) (b : Bool) → Some u ≡ part_at (parts_of t) i → b ≡ nat_eq (part_count (parts_of t) - 1) i → node_json b u ≡ first_or_null (from i (parts_json (parts_of t)))
part_found t u i b e h =
    let ps = parts_of t in
    ap (λ x. node_json x u) (h ∙ last_one ps i (within ps i u e)) ∙ sym (ap first_or_null (from_is_drop i (parts_json ps) ∙ drop_json i ps ∙ left_some ps i u e))

missing : (ps : Parts) (i : ℕ) → None ≡ part_at ps i → null ≡ first_or_null (drop i (parts_json ps))
unfolding parts_json
missing none zero e = refl
missing none (suc i) e = refl
missing (part t ps) zero e = absurd (cc)
missing (part t ps) (suc i) e = missing ps i e
missing (gap ps) zero e = refl
missing (gap ps) (suc i) e = missing ps i e

-- and of one that is missing
pub part_missing : (t : Tree) (i : ℕ) → None ≡ part_at (parts_of t) i → null ≡ first_or_null (from i (parts_json (parts_of t)))
part_missing t i e = missing (parts_of t) i e ∙ sym (ap first_or_null (from_is_drop i (parts_json (parts_of t))))

split_drop : (i : ℕ) (ds : List Data) → i < length ds → drop i ds ≡ first_or_null (drop i ds) ∷ drop (suc i) ds
split_drop i [] l = absurd (omega (arith, l))
split_drop zero (d ∷ ds) l = refl
split_drop (suc i) (d ∷ ds) l = split_drop i ds (omega (arith, l))

split_from : (i : ℕ) (ds : List Data) → i < length ds → drop i ds ≡ first_or_null (from i ds) ∷ drop (i + 1) ds
split_from i ds l = split_drop i ds l ∙ (λ k. first_or_null (sym (from_is_drop i ds) k) ∷ drop (sym (add-one i) k) ds)

-- the values from one place on up to another
abbrev pub between : ℕ → ℕ → List Data → List Data
between i j ds = take (j - i) (drop i ds)

pub between_more : (i j : ℕ) (ds : List Data) → i < j → j ≤ length ds → between i j ds ≡ first_or_null (from i ds) ∷ between (i + 1) j ds
between_more i j ds l m =
    let more : j - i ≡ suc (j - (i + 1)) = omega (arith, l) in
    ap (λ k. take k (drop i ds)) more ∙ ap (take (suc (j - (i + 1)))) (split_from i ds (omega (arith, l, m)))

pub between_none : (i j : ℕ) (ds : List Data) → j ≤ i → between i j ds ≡ []
between_none i j ds l = let no : j - i ≡ 0 = omega (arith, l) in ap (λ k. take k (drop i ds)) no

-- every other value
abbrev pub in_turns : Bool → List Data → List Data
in_turns true ds = odd_ones ds
in_turns false ds = odd_ones (drop 1 ds)

odd_step : (d : Data) (ds : List Data) → odd_ones (d ∷ ds) ≡ d ∷ odd_ones (drop 1 ds)
odd_step d [] = refl
odd_step d (e ∷ ds) = refl

pub turns_taken : (i : ℕ) (ds : List Data) → i < length ds → in_turns true (drop i ds) ≡ first_or_null (from i ds) ∷ in_turns false (drop (i + 1) ds)
turns_taken i ds l = ap (in_turns true) (split_from i ds l) ∙ odd_step (first_or_null (from i ds)) (drop (i + 1) ds)

pub turns_passed : (i : ℕ) (ds : List Data) → i < length ds → in_turns false (drop i ds) ≡ in_turns true (drop (i + 1) ds)
turns_passed i ds l = ap (in_turns false) (split_from i ds l)

past : (i : ℕ) (ds : List Data) → length ds ≤ i → drop i ds ≡ []
past zero [] l = refl
past (suc i) [] l = refl
past zero (d ∷ ds) l = absurd (omega (arith, l))
past (suc i) (d ∷ ds) l = past i ds (omega (arith, l))

pub turns_none : (b : Bool) (i : ℕ) (ds : List Data) → length ds ≤ i → in_turns b (drop i ds) ≡ []
turns_none true i ds l = ap (in_turns true) (past i ds l)
turns_none false i ds l = ap (in_turns false) (past i ds l)

-- how many they are
items_count : (ds : List Data) → items_len (items_of ds) ≡ length ds
items_count [] = refl
items_count (d ∷ ds) = ap suc (items_count ds)

pub between_count : (n i j : ℕ) (ps : Parts) → n ≡ j - i → j ≤ part_count ps → n ≡ items_len (items_of (between i j (parts_json ps)))
between_count n i j ps e l =
    let ds = parts_json ps in
    omega (arith, e, items_count (between i j ds), length-take (j - i) (drop i ds), length-drop i ds, count_json ps, l)

odd_count : (ds : List Data) → items_len (items_of (odd_ones ds)) ≡ div_ceil (length ds) 2
odd_count [] = refl
odd_count (d ∷ []) = refl
odd_count (d ∷ e ∷ ds) = omega (arith, odd_count ds)

pub turns_count : (n i m : ℕ) (ps : Parts) → n ≡ div_ceil m 2 → m ≡ part_count ps - i → n ≡ items_len (items_of (odd_ones (drop i (parts_json ps))))
turns_count n i m ps e h =
    let ds = parts_json ps in
    let left : m ≡ length (drop i ds) = omega (arith, h, count_json ps, length-drop i ds) in
    e ∙ ap (λ k. div_ceil k 2) left ∙ sym (odd_count (drop i ds))

-- the array of a list, and the part behind it
pub list_same : (s b to n : ℕ) (ds : List Data) → n ≡ length ds → to ≡ n - b → array (items_of (take (to - s) (drop s ds))) ≡ array (items_of (take (length (from s ds) - b) (from s ds)))
list_same s b to n ds e f =
    let long : length (from s ds) ≡ n - s = ap length (from_is_drop s ds) ∙ length-drop s ds ∙ ap (λ k. k - s) (sym e) in
    let same : to - s ≡ length (from s ds) - b = omega (arith, long, f) in
    (λ k. array (items_of (take (same k) (sym (from_is_drop s ds) k))))

pub behind_same : (s b at n : ℕ) (ds : List Data) → n ≡ length ds → at ≡ max (n - b) s → first_or_null (from at ds) ≡ first_or_null (drop (length (from s ds) - b) (from s ds))
behind_same s b at n ds e f =
    let long : length (from s ds) ≡ n - s = ap length (from_is_drop s ds) ∙ length-drop s ds ∙ ap (λ k. k - s) (sym e) in
    let same : at ≡ s + (length (from s ds) - b) = omega (arith, long, f) in
    ap first_or_null (from_is_drop at ds ∙ ap (λ k. drop k ds) same ∙ sym (drop-drop (length (from s ds) - b) s ds) ∙ ap (drop (length (from s ds) - b)) (sym (from_is_drop s ds)))
