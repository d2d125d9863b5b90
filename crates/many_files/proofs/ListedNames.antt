-- The names of a list, one byte on.
use Rattle.std.proofs.Common.{◌≡◌, ◌∙◌, ◌≤◌, ◌<◌, ◌+◌, ◌-◌, ℕ, zero, suc, List, [], ◌∷◌, ◌++◌, drop, length, take, slice_index_or, map, ap, sym, refl, append_assoc, arith}
use Rattle.std.proofs.lemmas.List.{drop_more, get_or-drop, length-drop, map-append}
use Rattle.std.proofs.Math.Seq.{take-suc}
use Rattle.many_files.specs.Names.{names_from}

data Successor (byte : ℕ) : Type 0 where
  successor : (n : ℕ) → byte ≡ suc n → Successor byte

not_zero : (byte : ℕ) → (byte ≡ 0 → ⊥) → Successor byte
not_zero zero other = absurd (other refl)
not_zero (suc n) other = successor n refl

-- a zero byte ends a name
zero_ends : (list : List ℕ) (start at : ℕ) → at < length list → slice_index_or list at 0 ≡ 0
    → names_from (take (at - start) (drop start list)) (drop at list) ≡ take (at - start) (drop start list) ∷ names_from [] (drop (at + 1) list)
zero_ends list start at low is =
    let name = take (at - start) (drop start list) in
    ap (names_from name) (drop_more list at 0 low) ∙ ap (λ byte. names_from name (byte ∷ drop (at + 1) list)) is

-- the name so far with one byte more
longer : (list : List ℕ) (start at : ℕ) → start ≤ at → at < length list
    → take (at + 1 - start) (drop start list) ≡ take (at - start) (drop start list) ++ slice_index_or list at 0 ∷ []
longer list start at begun low =
    let next : at + 1 - start ≡ suc (at - start) = omega (arith, begun) in
    let there : start + (at - start) ≡ at = omega (arith, begun) in
    let within : at - start < length (drop start list) = omega (arith, begun, low, length-drop start list) in
    ap (λ k. take k (drop start list)) next ∙ take-suc (drop start list) (at - start) 0 within
    ∙ ap (λ byte. take (at - start) (drop start list) ++ byte ∷ []) (get_or-drop start list (at - start) 0 ∙ ap (λ k. slice_index_or list k 0) there)

-- another byte goes on with it
other_goes_on : (list : List ℕ) (start at : ℕ) → start ≤ at → at < length list → (slice_index_or list at 0 ≡ 0 → ⊥)
    → names_from (take (at - start) (drop start list)) (drop at list) ≡ names_from (take (at + 1 - start) (drop start list)) (drop (at + 1) list)
other_goes_on list start at begun low other = with_byte (slice_index_or list at 0) refl (not_zero _ other) where
  name : List ℕ
  name = take (at - start) (drop start list)

  with_byte : (byte : ℕ) → slice_index_or list at 0 ≡ byte → Successor byte
      → names_from name (drop at list) ≡ names_from (take (at + 1 - start) (drop start list)) (drop (at + 1) list)
  with_byte byte is (successor n more) =
      ap (names_from name) (drop_more list at 0 low) ∙ ap (λ b. names_from name (b ∷ drop (at + 1) list)) (is ∙ more)
      ∙ ap (λ w. names_from w (drop (at + 1) list)) (ap (λ b. name ++ b ∷ []) (sym (is ∙ more)) ∙ sym (longer list start at begun low))

-- ---- a turn of the loop over a list: the names before it and after it, with what is left

pub name_ended : {A : Type 0} (f : A → List ℕ) (before after : List A) (part : A) (list : List ℕ) (whole : List (List ℕ)) (start at next : ℕ)
    → after ≡ before ++ part ∷ [] → f part ≡ take (at - start) (drop start list) → next ≡ at + 1 → at < length list → slice_index_or list at 0 ≡ 0
    → map f before ++ names_from (take (at - start) (drop start list)) (drop at list) ≡ whole
    → map f after ++ names_from (take (at + 1 - next) (drop next list)) (drop (at + 1) list) ≡ whole
name_ended f before after part list whole start at next more is begins low zero_there found =
    let left = names_from [] (drop (at + 1) list) in
    let none : at + 1 - next ≡ 0 = omega (arith, begins) in
    ap (λ k. map f after ++ names_from (take k (drop next list)) (drop (at + 1) list)) none ∙ ap (λ names. map f names ++ left) more
    ∙ ap (λ names. names ++ left) (map-append f before (part ∷ [])) ∙ append_assoc (map f before) (f part ∷ []) left
    ∙ ap (λ name. map f before ++ name ∷ left) is ∙ ap (λ names. map f before ++ names) (sym (zero_ends list start at low zero_there)) ∙ found

pub name_goes_on : {A : Type 0} (f : A → List ℕ) (before after : List A) (list : List ℕ) (whole : List (List ℕ)) (start at next : ℕ)
    → after ≡ before → next ≡ start → start ≤ at → at < length list → (slice_index_or list at 0 ≡ 0 → ⊥)
    → map f before ++ names_from (take (at - start) (drop start list)) (drop at list) ≡ whole
    → map f after ++ names_from (take (at + 1 - next) (drop next list)) (drop (at + 1) list) ≡ whole
name_goes_on f before after list whole start at next same begins begun low other found =
    ap (λ names. map f names ++ names_from (take (at + 1 - next) (drop next list)) (drop (at + 1) list)) same
    ∙ ap (λ k. map f before ++ names_from (take (at + 1 - k) (drop k list)) (drop (at + 1) list)) begins
    ∙ ap (λ names. map f before ++ names) (sym (other_goes_on list start at begun low other)) ∙ found
