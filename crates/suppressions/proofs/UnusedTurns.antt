-- Suppressions that turn no report off, one by one, and the flags of those that do.
use Rattle.std.proofs.Common.{◌≡◌, ◌≢◌, ℕ, ◌+◌, ◌<◌, Bool, true, false, List, [], ◌∷◌, ◌++◌, length, length-append, drop, get_or, Option, Some, refl, sym, ap, ◌∙◌, arith, get_or-set_other, get_or-set_same, subst}
use Rattle.std.specs.Prelude.{◌||◌, nat_eq}
use Rattle.std.specs.List.{list_any}
use Rattle.std.proofs.Math.ListN.{set, length-set, get_or-append}
use Rattle.std.proofs.Math.Seq.{get_or-append_seam}
use Rattle.std.proofs.lemmas.List.Folds.{list_any-append}
use Rattle.std.proofs.lemmas.Bool.Decides.{nat_tests}
use Rattle.rule_words.specs.Reports.{Report}
use Rattle.name_tables.proofs.EachPart.{appended}
use Rattle.suppressions.specs.Left.{AreUsed, is_index, unused_from, unused_if}
use Rattle.suppressions.specs.Suppressions.{Suppression}

module _ (offs : List (Option ℕ)) (ss : List Suppression) (i : ℕ) (old total : List Report) (so : old ++ unused_from i offs (drop i ss) ≡ total) where
  pub unused-turn : (s : Suppression) (is-used : Bool) (new : List Report) → drop i ss ≡ s ∷ drop (i + 1) ss → is-used ≡ list_any (is_index i) offs → new ≡ old ++ unused_if is-used s →
      new ++ unused_from (i + 1) offs (drop (i + 1) ss) ≡ total
  unused-turn s is-used new e u n =
      appended old (unused_if (list_any (is_index i) offs) s) (unused_from i offs (drop i ss)) (unused_from (i + 1) offs (drop (i + 1) ss)) new total (n ∙ ap (λ b. old ++ unused_if b s) u)
      (ap (unused_from i offs) e) so

by-cases : (P : ℕ → Type 0) (n i : ℕ) (b : Bool) → nat_eq i n ≡ b → (i < n → P i) → P n → i < n + 1 → P i
by-cases P n i true e below at l = let same : n ≡ i = grind (arith, nat_tests) in subst P same at
by-cases P n i false e below at l = below (grind (arith, nat_tests))

same-or-below : (P : ℕ → Type 0) (n : ℕ) → ((i : ℕ) → i < n → P i) → P n → (i : ℕ) → i < n + 1 → P i
same-or-below P n below at i l = by-cases P n i (nat_eq i n) refl (below i) at l

-- one flag more
pub flag-more : (n : ℕ) (used : List Bool) → AreUsed n [] used → AreUsed (n + 1) [] (used ++ false ∷ [])
flag-more n used are = (
  length-append used (false ∷ []) ∙ ap (λ m. m + 1) are.0,
  same-or-below (λ i. get_or (used ++ false ∷ []) i false ≡ false) n
      (λ i l. let within : i < length used = omega (arith, are.0) in get_or-append used (false ∷ []) false i within ∙ are.1 i l)
      (ap (λ m. get_or (used ++ false ∷ []) m false) (sym are.0) ∙ get_or-append_seam used false [] false),
)

or-false : (b : Bool) → (b || false) ≡ b
or-false true = refl
or-false false = refl

or-true : (b : Bool) → (b || true) ≡ true
or-true true = refl
or-true false = refl

-- what one index more says of another one
other : (offs : List (Option ℕ)) (off : Option ℕ) (i : ℕ) → is_index i off ≡ false → list_any (is_index i) (offs ++ off ∷ []) ≡ list_any (is_index i) offs
other offs off i e = list_any-append (is_index i) offs (off ∷ []) ∙ (ap (λ b. list_any (is_index i) offs || (b || false)) e ∙ or-false _)

itself : (offs : List (Option ℕ)) (off : Option ℕ) (i : ℕ) → is_index i off ≡ true → list_any (is_index i) (offs ++ off ∷ []) ≡ true
itself offs off i e = list_any-append (is_index i) offs (off ∷ []) ∙ (ap (λ b. list_any (is_index i) offs || (b || false)) e ∙ or-true _)

flag-at : (offs : List (Option ℕ)) (used : List Bool) (index i : ℕ) (b : Bool) → nat_eq i index ≡ b → index < length used → get_or used i false ≡ list_any (is_index i) offs →
    get_or (set used index true) i false ≡ list_any (is_index i) (offs ++ Some index ∷ [])
flag-at offs used index i true e within so =
    let same : index ≡ i = grind (arith, nat_tests) in
    subst (λ j. get_or (set used index true) j false ≡ true) same (get_or-set_same used index true false within) ∙ sym (itself offs (Some index) i e)
flag-at offs used index i false e within so =
    let ne : i ≢ index = grind (arith, nat_tests) in
    get_or-set_other used index i true false ne ∙ so ∙ sym (other offs (Some index) i e)

-- the flag of an index
pub mark-set : (n : ℕ) (offs : List (Option ℕ)) (used : List Bool) (index : ℕ) → index < length used → AreUsed n offs used → AreUsed n (offs ++ Some index ∷ []) (set used index true)
mark-set n offs used index within are = (length-set used index true ∙ are.0, λ i l. flag-at offs used index i (nat_eq i index) refl within (are.1 i l))

pub flag-pushed : (used new : List Bool) → new ≡ used ++ false ∷ [] → AreUsed (length used) [] used → AreUsed (length new) [] new
flag-pushed used new e are =
    subst (λ xs. AreUsed (length xs) [] xs) (sym e) (subst (λ m. AreUsed m [] (used ++ false ∷ [])) (sym (length-append used (false ∷ []))) (flag-more (length used) used are))
