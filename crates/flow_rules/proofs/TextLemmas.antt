-- Bytes, as loops go over them.
use Rattle.std.proofs.Common.{◌≡◌, ℕ, zero, suc, ◌+◌, ◌<◌, ◌≤◌, Bool, true, false, List, [], ◌∷◌, length, drop, get_or, refl, sym, ap, ◌∙◌, arith, add-one}
use Rattle.std.specs.Prelude.{◌&&◌, ◌||◌}
use Rattle.std.proofs.Math.Seq.{drop-cons}
use Rattle.std.proofs.lemmas.List.{drop_all}
use Rattle.flow_rules.specs.Completion.{are_digits, is_digit}
use Rattle.flow_rules.specs.Fallthrough.{begins_falls, says_falls}

says-step : (cs : List ℕ) (i : ℕ) → i < length cs → says_falls (drop i cs) ≡ (begins_falls (drop i cs) || says_falls (drop (suc i) cs))
says-step [] i l = absurd (omega (arith, l))
says-step (c ∷ cs) zero l = refl
says-step (c ∷ cs) (suc i) l = says-step cs i (omega (arith, l))

module _ (cs : List ℕ) (i : ℕ) (total : Bool) (so : says_falls (drop i cs) ≡ total) where
  pub says-found : i < length cs → begins_falls (drop i cs) ≡ true → true ≡ total
  says-found l h = sym (ap (λ b. b || says_falls (drop (suc i) cs)) h) ∙ sym (says-step cs i l) ∙ so

  pub says-turn : i < length cs → begins_falls (drop i cs) ≡ false → says_falls (drop (i + 1) cs) ≡ total
  says-turn l h = rw (add-one i) (sym (ap (λ b. b || says_falls (drop (suc i) cs)) h) ∙ sym (says-step cs i l) ∙ so)

  pub says-end : length cs ≤ i → false ≡ total
  says-end l = sym (ap says_falls (drop_all i cs l)) ∙ so

module _ (bs : List ℕ) (i d : ℕ) (total : Bool) (so : are_digits (drop i bs) ≡ total) (l : i < length bs) where
  digits-step : (is_digit (get_or bs i d) && are_digits (drop (suc i) bs)) ≡ total
  digits-step = ap are_digits (sym (drop-cons bs i d l)) ∙ so

  pub digits-not : is_digit (get_or bs i d) ≡ false → false ≡ total
  digits-not h = sym (ap (λ b. b && are_digits (drop (suc i) bs)) h) ∙ digits-step

  pub digits-turn : is_digit (get_or bs i d) ≡ true → are_digits (drop (i + 1) bs) ≡ total
  digits-turn h = rw (add-one i) (sym (ap (λ b. b && are_digits (drop (suc i) bs)) h) ∙ digits-step)
