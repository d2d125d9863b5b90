-- Places of a text at or before an offset.
use Rattle.std.proofs.Common.{◌≡◌, ◌≤◌, ◌<◌, inl, inr, ℕ, zero, suc, true, cond, List, length, sym, ap, ◌∙◌, arith}
use Rattle.std.proofs.lemmas.Bool.{cases_lt, cases_Bool}
use Rattle.std.proofs.lemmas.Bool.Decides.{nat_tests}
use Rattle.std.proofs.lemmas.List.{get_or_past}
use Rattle.std.specs.Str.{IsCharBoundary}
use Rattle.rules.specs.Lines.{is_place, place_before}

pub boundary_is_place : (text : List ℕ) (i : ℕ) → IsCharBoundary text i → is_place text i ≡ true
boundary_is_place text i b =
    let within = b.0 in
    elim (cases_lt i (length text)) [
      | inl lt ↦ let high = b.1 lt in grind (arith, nat_tests)
      | inr ge ↦ let e = get_or_past text i 0 ge in grind (arith, nat_tests)
    ]

pub place_is_boundary : (text : List ℕ) (i : ℕ) → is_place text i ≡ true → IsCharBoundary text i
place_is_boundary text i p = grind (arith, nat_tests)

-- the nearest boundary at or before an offset
pub nearest_is_before : (text : List ℕ) (index at : ℕ) → at ≤ index → IsCharBoundary text at → ((i : ℕ) → at < i → i ≤ index → IsCharBoundary text i → ⊥) → at ≡ place_before text index
nearest_is_before text zero at h b far = omega arith
nearest_is_before text (suc i) at h b far =
    elim (cases_lt at (suc i)) [
      | inl lt ↦ elim (cases_Bool (is_place text (suc i))) [
        | inl p ↦ absurd (far (suc i) lt (omega arith) (place_is_boundary text (suc i) p))
        | inr p ↦ nearest_is_before text i at (omega arith) b (λ j l m. far j l (omega arith)) ∙ sym (ap (λ x. cond x (suc i) (place_before text i)) p)
      ]
      | inr ge ↦
          let same : at ≡ suc i = omega arith in
          let p : is_place text (suc i) ≡ true = boundary_is_place text (suc i) (rw same at b) in
          same ∙ sym (ap (λ x. cond x (suc i) (place_before text i)) p)
    ]
