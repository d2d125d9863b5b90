-- The place behind the last parameter of a scope that is read.
use Rattle.std.proofs.Common.{◌≡◌, ℕ, zero, suc, ◌+◌, ◌<◌, ◌≤◌, Bool, true, false, List, length, get_or, drop, refl, sym, ap, ◌∙◌, add-one, arith, inl, inr}
use Rattle.std.specs.Prelude.{◌&&◌, ◌||◌, nat_lt}
use Rattle.std.proofs.Math.Seq.{drop-cons}
use Rattle.std.proofs.lemmas.Bool.{cases_lt, lt-ltb, le-ltb}
use Rattle.std.proofs.lemmas.List.{drop_all}
use Rattle.scopes.specs.declared.binding.Binding.{Binding as CodeBinding}
use Rattle.scopes.specs.Shown.{all_shown}
use Rattle.rules.specs.Rules.{is_param, reads_param}

-- from a place on, a parameter is read
abbrev pub reads_from : (ℕ × ℕ → Bool) → ℕ → List CodeBinding → ℕ → Bool
reads_from read n xs i = reads_param read n i (all_shown (drop i xs))

-- as far as the loop has come
pub record IsBehind (read : ℕ × ℕ → Bool) (n : ℕ) (xs : List CodeBinding) (k behind : ℕ) : Type 0 where
  pub within : behind ≤ k
  pub told : (i : ℕ) → i ≤ k → reads_from read n xs i ≡ (nat_lt i behind || reads_from read n xs k)

reads-step : (read : ℕ × ℕ → Bool) (n : ℕ) (xs : List CodeBinding) (k : ℕ) (d : CodeBinding) → k < length xs
    → reads_from read n xs k ≡ ((is_param (get_or xs k d).kind && read (n, k)) || reads_from read n xs (k + 1))
reads-step read n xs k d l =
    ap (λ ys. reads_param read n k (all_shown ys)) (drop-cons xs k d l)
    ∙ ap (λ j. (is_param (get_or xs k d).kind && read (n, k)) || reads_param read n (k + 1) (all_shown (drop j xs))) (sym (add-one k))

or-true : (b : Bool) → (b || true) ≡ true
or-true true = refl
or-true false = refl

or-false : (b : Bool) → (b || false) ≡ b
or-false true = refl
or-false false = refl

pub behind-begin : (read : ℕ × ℕ → Bool) (n : ℕ) (xs : List CodeBinding) → IsBehind read n xs 0 0
behind-begin read n xs = record { within = omega arith; told = first }
  where
    first : (i : ℕ) → i ≤ 0 → reads_from read n xs i ≡ (nat_lt i 0 || reads_from read n xs 0)
    first zero l = refl
    first (suc i) l = absurd (omega (arith, l))

-- a parameter that is read
pub behind-read : (read : ℕ × ℕ → Bool) (n : ℕ) (xs : List CodeBinding) (k behind : ℕ) (d : CodeBinding) → k < length xs → (is_param (get_or xs k d).kind && read (n, k)) ≡ true
    → IsBehind read n xs k behind → IsBehind read n xs (k + 1) (k + 1)
behind-read read n xs k behind d l it so = record { within = omega arith; told = all }
  where
    here : reads_from read n xs k ≡ true
    here = reads-step read n xs k d l ∙ ap (λ b. b || reads_from read n xs (k + 1)) it

    all : (i : ℕ) → i ≤ k + 1 → reads_from read n xs i ≡ (nat_lt i (k + 1) || reads_from read n xs (k + 1))
    all i m = elim (cases_lt i (k + 1)) [
      | inl before ↦ so.told i (omega (arith, before)) ∙ ap (λ b. nat_lt i behind || b) here ∙ or-true (nat_lt i behind) ∙ sym (ap (λ b. b || reads_from read n xs (k + 1)) (lt-ltb i (k + 1) before))
      | inr past ↦ let e : i ≡ k + 1 = omega (arith, m, past) in ap (reads_from read n xs) e ∙ sym (ap (λ b. b || reads_from read n xs (k + 1)) (le-ltb i (k + 1) past))
    ]

-- another binding
pub behind-other : (read : ℕ × ℕ → Bool) (n : ℕ) (xs : List CodeBinding) (k behind : ℕ) (d : CodeBinding) → k < length xs → (is_param (get_or xs k d).kind && read (n, k)) ≡ false
    → IsBehind read n xs k behind → IsBehind read n xs (k + 1) behind
behind-other read n xs k behind d l it so = record { within = omega (arith, so.within); told = all }
  where
    here : reads_from read n xs k ≡ reads_from read n xs (k + 1)
    here = reads-step read n xs k d l ∙ ap (λ b. b || reads_from read n xs (k + 1)) it

    all : (i : ℕ) → i ≤ k + 1 → reads_from read n xs i ≡ (nat_lt i behind || reads_from read n xs (k + 1))
    all i m = elim (cases_lt i (k + 1)) [
      | inl before ↦ so.told i (omega (arith, before)) ∙ ap (λ b. nat_lt i behind || b) here
      | inr past ↦ let e : i ≡ k + 1 = omega (arith, m, past) in ap (reads_from read n xs) e ∙ sym (ap (λ b. b || reads_from read n xs (k + 1)) (le-ltb i behind (omega (arith, so.within, past))))
    ]

pub behind-end : (read : ℕ × ℕ → Bool) (n : ℕ) (xs : List CodeBinding) (k behind : ℕ) → length xs ≤ k → IsBehind read n xs k behind → (i : ℕ) → i ≤ length xs → reads_from read n xs i ≡ nat_lt i behind
behind-end read n xs k behind l so i m =
    so.told i (omega (arith, l, m)) ∙ ap (λ (ys : List CodeBinding). nat_lt i behind || reads_param read n k (all_shown ys)) (drop_all k xs l) ∙ or-false (nat_lt i behind)
