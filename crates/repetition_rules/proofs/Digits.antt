-- Digits, one by one, and the `n` of a bigint.
use Rattle.std.proofs.Common.{◌≡◌, ℕ, suc, ◌+◌, ◌<◌, List, [], ◌∷◌, ◌++◌, Bool, true, false, length, drop, get_or, refl, sym, ap, ◌∙◌, add-one}
use Rattle.std.specs.Prelude.{◌&&◌, nat_eq}
use Rattle.std.proofs.Math.Seq.{drop-cons}
use Rattle.std.proofs.lemmas.Bool.{ne_eqb}
use Rattle.repetition_rules.specs.Keys.{are_digits, is_digit, without_n}

module _ (bs : List ℕ) (i d : ℕ) (total : Bool) (so : are_digits (drop i bs) ≡ total) (l : i < length bs) where
  step : (is_digit (get_or bs i d) && are_digits (drop (suc i) bs)) ≡ total
  step = ap are_digits (sym (drop-cons bs i d l)) ∙ so

  pub digits-not : is_digit (get_or bs i d) ≡ false → false ≡ total
  digits-not h = sym (ap (λ b. b && are_digits (drop (suc i) bs)) h) ∙ step

  pub digits-turn : is_digit (get_or bs i d) ≡ true → are_digits (drop (i + 1) bs) ≡ total
  digits-turn h = rw (add-one i) (sym (ap (λ b. b && are_digits (drop (suc i) bs)) h) ∙ step)

pub n-last : (xs : List ℕ) → without_n (xs ++ 110 ∷ []) ≡ xs
n-last [] = refl
n-last (x ∷ []) = refl
n-last (x ∷ y ∷ ys) = ap (λ zs. x ∷ zs) (n-last (y ∷ ys))

pub no-n-last : (bs : List ℕ) → ((front : List ℕ) → ¬ (bs ≡ front ++ 110 ∷ [])) → bs ≡ without_n bs
no-n-last [] h = refl
no-n-last (c ∷ []) h =
    let d : nat_eq c 110 ≡ false = ne_eqb c 110 (λ e. h [] (ap (λ x. x ∷ []) e)) in
    rw d
no-n-last (c ∷ d ∷ ds) h = ap (λ zs. c ∷ zs) (no-n-last (d ∷ ds) (λ front e. h (c ∷ front) (ap (λ zs. c ∷ zs) e)))
