-- The digits of a float's pattern.
use Rattle.std.proofs.Common.{◌≡◌, ◌≢◌, ℕ, zero, suc, ◌+◌, ◌-◌, ◌*◌, ◌/◌, ◌%◌, ◌^◌, Bool, true, false, nat_eq, cond, refl, sym, ap, ◌∙◌, subst, arith}
use Rattle.std.specs.Prelude.{T, to_bits}
use Rattle.std.specs.Float.{Float, binary64, nan, inf, float_is_finite}
use Rattle.std.specs.Float.Ieee.{fits, odd, of_fields, of_bits}
use Rattle.std.specs.Float.Ieee.Digits.{Equals, odd_val}
use Rattle.std.specs.Float.Ieee.Bits.{of_bits-to_bits}

-- what the fields of a finite number's pattern say
pub record Parts (x : Float) (field digits : ℕ) : Type 0 where
  pub small : field ≡ 0 → Equals x (digits * 2 ^ 0) (2 ^ 1074)
  pub other : field ≢ 0 → Equals x ((2 ^ 52 + digits) * 2 ^ (field - 1)) (2 ^ 1074)
  pub not_ones : field ≢ 2047

not_finite : (b s : Bool) → float_is_finite (cond b (inf s) nan) ≡ true → ⊥
unfolding float_is_finite
not_finite true s h = cc
not_finite false s h = cc

pred : (k : ℕ) → k ≡ suc k - 1
pred k = omega arith

by_test : (s : Bool) (k t : ℕ) (b : Bool) → nat_eq (suc k) 2047 ≡ b → float_is_finite (cond b (cond (nat_eq t 0) (inf s) nan) (odd 53 s (2 ^ 52 + t) k 1074)) ≡ true
    → Parts (cond b (cond (nat_eq t 0) (inf s) nan) (odd 53 s (2 ^ 52 + t) k 1074)) (suc k) t
by_test s k t true e h = absurd (not_finite (nat_eq t 0) s h)
by_test s k t false e h = record {
  small = λ z. absurd cc;
  other = λ z. subst (λ n. Equals (odd 53 s (2 ^ 52 + t) k 1074) ((2 ^ 52 + t) * 2 ^ n) (2 ^ 1074)) (pred k) (odd_val 53 s (2 ^ 52 + t) k 1074);
  not_ones = λ o. absurd (go (sym (ap (λ n. nat_eq n 2047) o) ∙ e));
}
  where
    go : true ≡ false → ⊥
    go h = cc

by_fields : (s : Bool) (field t : ℕ) → float_is_finite (of_fields binary64 s field t) ≡ true → Parts (of_fields binary64 s field t) field t
unfolding of_fields
by_fields s zero t h = record { small = λ z. odd_val 53 s t 0 1074; other = λ z. absurd (z refl); not_ones = λ o. absurd cc }
by_fields s (suc k) t h = by_test s k t (nat_eq (suc k) 2047) refl h

of_pattern : (b : ℕ) → float_is_finite (of_bits binary64 b) ≡ true → Parts (of_bits binary64 b) (b % 2 ^ 63 / 2 ^ 52) (b % 2 ^ 52)
unfolding of_bits
of_pattern b h = by_fields _ _ _ h

pub digits_of : (x : Float) → T (fits binary64 x) → float_is_finite x ≡ true → Parts x (to_bits binary64 x % 2 ^ 63 / 2 ^ 52) (to_bits binary64 x % 2 ^ 52)
digits_of x f h =
    let back = of_bits-to_bits binary64 x f in
    subst (λ y. Parts y (to_bits binary64 x % 2 ^ 63 / 2 ^ 52) (to_bits binary64 x % 2 ^ 52)) back (of_pattern (to_bits binary64 x) (ap float_is_finite back ∙ h))
