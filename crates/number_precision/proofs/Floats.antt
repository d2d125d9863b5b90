-- Digits that are those of a float, by its own digits.
use Rattle.std.proofs.Common.{◌≡◌, ℕ, zero, suc, ◌+◌, ◌-◌, ◌*◌, ◌^◌, ◌<◌, ◌≤◌, true, false, refl, sym, ap, ap₂, ◌∙◌, arith, le-leb, lt-ltb}
use Rattle.std.specs.Prelude.{◌&&◌, ◌||◌, ◌++◌, not, length, nat_le, nat_lt}
use Rattle.std.specs.Float.{Float, binary64, nan, inf, fin, float_is_finite}
use Rattle.std.specs.Float.Ieee.{up, down, round}
use Rattle.std.specs.Float.Ieee.Digits.{Equals}
use Rattle.std.specs.Float.Ieee.Exact.{HasValue, round_exact}
use Rattle.std.specs.Float.Ieee.Fits.{down_pos}
use Rattle.std.proofs.Math.Dec.{lit≤}
use Rattle.std.proofs.Math.Nat.{mul-pos}
use Rattle.std.proofs.lemmas.Nat.{pow_pos}
use Rattle.number_precision.specs.Near.{is_near}
use Rattle.std.specs.Float.Numeral.{Parts, nearest_float, numeral_digits, tens_down, tens_up}
use Rattle.std.specs.Str.Parse.{digits_value}
use Rattle.std.proofs.lemmas.List.{nil_from_length}
use Rattle.number_precision.specs.Precision.{counted, is_rounded, loses_decimal, significant}
use Rattle.number_precision.proofs.LimbsLemmas.{power_pos}
use Rattle.number_precision.proofs.Nearness.{le-scaled, lt-scaled}

module _ (x m u w n t h v : ℕ) (positive : 0 < n) (some : 0 < w) (same : m * u * n ≡ v * w) where
  left : x * t * w * n ≡ x * t * n * w
  left = omega arith

  right : 2 * m * u * h * n ≡ 2 * v * h * w
  right = omega (arith, ap (λ y. 2 * h * y) same)

  le-side : nat_le (x * t * n) (2 * v * h) ≡ nat_le (x * t * w) (2 * m * u * h)
  le-side = sym (le-scaled (x * t * n) (2 * v * h) w some) ∙ sym (ap₂ nat_le left right) ∙ le-scaled (x * t * w) (2 * m * u * h) n positive

  lt-side : nat_lt (2 * v * h) (x * t * n) ≡ nat_lt (2 * m * u * h) (x * t * w)
  lt-side = sym (lt-scaled (2 * v * h) (x * t * n) w some) ∙ sym (ap₂ nat_lt right left) ∙ lt-scaled (2 * m * u * h) (x * t * w) n positive

product : (q k h : ℕ) → 2 * (q * k) * h ≡ 2 * q * k * h
product q k h = omega arith

pub near_of : (v : Float) (q k d t h : ℕ) → Equals v (q * 2 ^ k) (2 ^ 1074) → is_near d t h q k ≡ is_rounded d t h v
near_of nan q k d t h e = absurd e
near_of (inf s) q k d t h e = absurd e
near_of (fin s m z) q k d t h e =
    ap₂ (λ a b. a && b)
    (ap (λ y. nat_le ((2 * d - 1) * 10 ^ t * 2 ^ 1074) y) (sym (product q (2 ^ k) (10 ^ h))) ∙ le-side (2 * d - 1) m (up z) (down z) (2 ^ 1074) (10 ^ t) (10 ^ h) (q * 2 ^ k) (pow_pos 1074) (down_pos z) e)
    (ap (λ y. nat_lt y ((2 * d + 1) * 10 ^ t * 2 ^ 1074)) (sym (product q (2 ^ k) (10 ^ h))) ∙ lt-side (2 * d + 1) m (up z) (down z) (2 ^ 1074) (10 ^ t) (10 ^ h) (q * 2 ^ k) (pow_pos 1074) (down_pos z) e)

pub infinite : (v : Float) (d t h : ℕ) → float_is_finite v ≡ false → false ≡ is_rounded d t h v
unfolding float_is_finite
infinite nan d t h e = refl
infinite (inf s) d t h e = refl
infinite (fin s m z) d t h e = absurd cc

-- 0
nothing : (m u w n : ℕ) → 0 < n → m * u * n ≡ 0 * w → m * u ≡ 0
nothing m u w n p e = by_product (m * u) refl
  where
    by_product : (r : ℕ) → m * u ≡ r → m * u ≡ 0
    by_product zero s = s
    by_product (suc r) s = absurd (more (mul-pos {m = suc r} (omega arith) p) (sym (ap (λ y. y * n) s) ∙ e))
      where
        more : 0 < suc r * n → suc r * n ≡ 0 * w → ⊥
        more h g = omega (arith, h, g)

kept : (m u w t h : ℕ) → m * u ≡ 0 → 0 < w → 0 < t → 2 * m * u * h < (2 * 0 + 1) * t * w
kept m u w t h e p o =
    let less : 0 < t * w = mul-pos o p in
    omega (arith, less, ap (λ y. 2 * h * y) e)

zero_value : (v : Float) (t h n : ℕ) → 0 < n → HasValue v false 0 n → is_rounded 0 t h v ≡ true
zero_value nan t h n p e = absurd e
zero_value (inf s) t h n p e = absurd e
zero_value (fin s m z) t h n p e =
    ap₂ (λ a b. a && b) (le-leb _ _ (least (10 ^ t) (down z) (2 * m * up z * 10 ^ h))) (lt-ltb _ _ (kept m (up z) (down z) (10 ^ t) (10 ^ h) (nothing m (up z) (down z) n p e.1) (down_pos z) (power_pos 10 t (lit≤ tt))))
  where
    least : (a b c : ℕ) → (2 * 0 - 1) * a * b ≤ c
    least a b c = omega arith

pub zero_kept : (t h num den : ℕ) → num ≡ 0 → 0 < den → is_rounded 0 t h (round binary64 false num den) ≡ true
zero_kept t h num den e p =
    ap (λ y. is_rounded 0 t h (round binary64 false y den)) e
    ∙ zero_value (round binary64 false 0 den) t h den p (round_exact binary64 false 0 den 0 0 p (lit≤ tt) (lit≤ tt) (none den))
  where
    none : (n : ℕ) → 0 * 2 ^ 1074 ≡ 0 * 2 ^ 0 * n
    none n = omega arith

-- a literal without a digit that counts is 0
pub empty_kept : (p : Parts) → length (significant p) ≡ 0 → digits_value 10 (p.whole ++ p.fraction) ≡ 0 → false ≡ loses_decimal p
empty_kept p e z =
    let v = nearest_float binary64 false p in
    sym
    (ap (λ g. nat_lt 100 (length g) || not (is_rounded (digits_value 10 g) (tens_up p + (length (counted p) - length g)) (tens_down p) v)) (nil_from_length (significant p) e)
    ∙ ap not (zero_kept (tens_up p + (length (counted p) - 0)) (tens_down p) (numeral_digits p * 10 ^ tens_up p) (10 ^ tens_down p) (ap (λ n. n * 10 ^ tens_up p) z ∙ none (10 ^ tens_up p)) (power_pos 10 (tens_down p) (lit≤ tt))))
  where
    none : (n : ℕ) → 0 * n ≡ 0
    none n = omega arith
