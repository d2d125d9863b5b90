-- Powers of ten that are far apart settle whether digits are those of a number; equal ones don't matter.
use Rattle.std.proofs.Common.{◌≡◌, ℕ, zero, suc, ◌+◌, ◌-◌, ◌*◌, ◌^◌, ◌<◌, ◌≤◌, Bool, true, false, refl, sym, ap, ap₂, ◌∙◌, arith, le-ltb, lt-ltb, ltb-true, subst}
use Rattle.std.specs.Prelude.{◌&&◌, nat_le, nat_lt, length, if◌then◌else◌}
use Rattle.std.proofs.Math.Dec.{lit≤}
use Rattle.std.proofs.Math.Nat.{le_of_lt, le_trans, lt_of_le_of_lt, lt_of_lt_of_le, mul-le-mul, mul-le-mul_left, mul-le-mul_right, mul-lt-mul_of_pos_right, mul-pos, pow-le-pow_right}
use Rattle.std.proofs.lemmas.Bool.{lt-leb}
use Rattle.std.proofs.lemmas.Nat.{pow-add, pow_pos}
use Rattle.std.specs.Float.Numeral.{Parts, tens_down, tens_up}
use Rattle.std.specs.Str.Parse.{digits_value}
use Rattle.number_precision.specs.Near.{is_near}
use Rattle.number_precision.proofs.LimbsLemmas.{power_pos}
use Rattle.number_precision.proofs.Nearness.{le-scaled, lt-scaled}

and_false : (a : Bool) → (a && false) ≡ false
and_false true = refl
and_false false = refl

ten : (k : ℕ) → 0 < 10 ^ k
ten k = power_pos 10 k (lit≤ tt)

-- a power of ten that both sides have
module _ (n x v t h a b c : ℕ) (s : t ≡ a + c) (u : h ≡ b + c) where
  left : x * 10 ^ t * n ≡ x * 10 ^ a * n * 10 ^ c
  left = let e : 10 ^ t ≡ 10 ^ a * 10 ^ c = ap (λ y. 10 ^ y) s ∙ pow-add 10 a c in omega (arith, ap (λ y. x * n * y) e)

  right : v * 10 ^ h ≡ v * 10 ^ b * 10 ^ c
  right = let e : 10 ^ h ≡ 10 ^ b * 10 ^ c = ap (λ y. 10 ^ y) u ∙ pow-add 10 b c in omega (arith, ap (λ y. v * y) e)

  le-by-tens : nat_le (x * 10 ^ a * n) (v * 10 ^ b) ≡ nat_le (x * 10 ^ t * n) (v * 10 ^ h)
  le-by-tens = sym (ap₂ nat_le left right ∙ le-scaled (x * 10 ^ a * n) (v * 10 ^ b) (10 ^ c) (ten c))

  lt-by-tens : nat_lt (v * 10 ^ b) (x * 10 ^ a * n) ≡ nat_lt (v * 10 ^ h) (x * 10 ^ t * n)
  lt-by-tens = sym (ap₂ nat_lt right left ∙ lt-scaled (v * 10 ^ b) (x * 10 ^ a * n) (10 ^ c) (ten c))

pub near-by-tens : (d t h q k a b c : ℕ) → t ≡ a + c → h ≡ b + c → is_near d a b q k ≡ is_near d t h q k
near-by-tens d t h q k a b c s u =
    ap₂ (λ x y. x && y) (le-by-tens (2 ^ 1074) (2 * d - 1) (2 * q * 2 ^ k) t h a b c s u) (lt-by-tens (2 ^ 1074) (2 * d + 1) (2 * q * 2 ^ k) t h a b c s u)

-- too many tens
module _ (d t h q k : ℕ) (positive : 0 < d) where
  no_low : nat_lt (2 * q * 2 ^ k * 10 ^ h) ((2 * d - 1) * 10 ^ t * 2 ^ 1074) ≡ true → false ≡ is_near d t h q k
  no_low l = ap (λ b. b && nat_lt (2 * q * 2 ^ k * 10 ^ h) ((2 * d + 1) * 10 ^ t * 2 ^ 1074)) (sym (lt-leb _ _ (ltb-true _ _ l)))

  least : 1 * 10 ^ t * 2 ^ 1074 ≤ (2 * d - 1) * 10 ^ t * 2 ^ 1074
  least = mul-le-mul_right (2 ^ 1074) (mul-le-mul_right (10 ^ t) (omega arith))

  pub far_up : q < 2 ^ 53 → k ≤ 2045 → h + 400 < t → false ≡ is_near d t h q k
  far_up small power far =
      let v : 2 * q * 2 ^ k ≤ 2 * 2 ^ 53 * 2 ^ 2045 = mul-le-mul (mul-le-mul_left 2 (le_of_lt small)) (pow-le-pow_right (lit≤ tt) power) in
      let w : 2 * q * 2 ^ k < 10 ^ 400 * 2 ^ 1074 = lt_of_le_of_lt v (lit≤ tt) in
      let x : 2 * q * 2 ^ k * 10 ^ h < 10 ^ 400 * 2 ^ 1074 * 10 ^ h = mul-lt-mul_of_pos_right w (ten h) in
      let y : 10 ^ (h + 400) ≤ 10 ^ t = pow-le-pow_right (lit≤ tt) (le_of_lt far) in
      let z = mul-le-mul_right (2 ^ 1074) y in
      no_low (lt-ltb _ _ (lt_of_lt_of_le x (le_trans (apart (2 ^ 1074) (10 ^ 400) (10 ^ h) (10 ^ (h + 400)) (10 ^ t) (pow-add 10 h 400) z) least)))
    where
      apart : (n a b c e : ℕ) → c ≡ b * a → c * n ≤ e * n → a * n * b ≤ 1 * e * n
      apart n a b c e s z = omega (arith, z, ap (λ y. y * n) s)

  pub far_down : d < 10 ^ 100 → t + 500 < h → false ≡ is_near d t h q k
  far_down few far = by_value q refl
    where
      apart : (x a b c e v : ℕ) → c ≡ b * a → x * b ≤ a * b → c ≤ e → e ≤ v * e → x * b ≤ v * e
      apart x a b c e v s l m n = le_trans l (le_trans (omega (arith, s)) (le_trans m n))

      reordered : (x n b : ℕ) → x * b * n ≡ x * n * b
      reordered x n b = omega arith

      some : (v : ℕ) → 1 ≤ v → 10 ^ h ≤ v * 10 ^ h
      some v p = let l = mul-le-mul_right (10 ^ h) p in omega (arith, l)

      high : 1 ≤ 2 * q * 2 ^ k → (2 * d + 1) * 10 ^ t * 2 ^ 1074 ≤ 2 * q * 2 ^ k * 10 ^ h
      high p =
          let x : 2 * d + 1 ≤ 2 * 10 ^ 100 = let l = mul-le-mul_left 2 few in omega (arith, l) in
          let y : (2 * d + 1) * 2 ^ 1074 ≤ 10 ^ 500 = le_trans (mul-le-mul_right (2 ^ 1074) x) (lit≤ tt) in
          subst (λ z. z ≤ 2 * q * 2 ^ k * 10 ^ h) (sym (reordered (2 * d + 1) (2 ^ 1074) (10 ^ t)))
          (apart ((2 * d + 1) * 2 ^ 1074) (10 ^ 500) (10 ^ t) (10 ^ (t + 500)) (10 ^ h) (2 * q * 2 ^ k) (pow-add 10 t 500) (mul-le-mul_right (10 ^ t) y) (pow-le-pow_right (lit≤ tt) (le_of_lt far)) (some _ p))

      positive_value : (r : ℕ) → 1 ≤ 2 * suc r * 2 ^ k
      positive_value r = mul-pos {m = 2 * suc r} (omega arith) (pow_pos k)

      by_value : (r : ℕ) → q ≡ r → false ≡ is_near d t h q k
      by_value zero e = no_low (lt-ltb _ _ (subst (λ z. 2 * z * 2 ^ k * 10 ^ h < (2 * d - 1) * 10 ^ t * 2 ^ 1074) (sym e) (nothing (2 ^ k) (10 ^ h) ((2 * d - 1) * 10 ^ t * 2 ^ 1074) (le_trans ten_positive least))))
        where
          nothing : (a b c : ℕ) → 0 < c → 2 * 0 * a * b < c
          nothing a b c p = omega (arith, p)

          ten_positive : 0 < 1 * 10 ^ t * 2 ^ 1074
          ten_positive = mul-pos (subst (λ z. 0 < z) (one (10 ^ t)) (ten t)) (pow_pos 1074)
            where
              one : (x : ℕ) → x ≡ 1 * x
              one x = omega arith
      by_value (suc r) e =
          sym (ap (λ b. nat_le ((2 * d - 1) * 10 ^ t * 2 ^ 1074) (2 * q * 2 ^ k * 10 ^ h) && b) (le-ltb _ _ (high (subst (λ z. 1 ≤ 2 * z * 2 ^ k) (sym e) (positive_value r)))) ∙ and_false (nat_le ((2 * d - 1) * 10 ^ t * 2 ^ 1074) (2 * q * 2 ^ k * 10 ^ h)))

-- the powers of ten of a numeral
pub up_if : (p : Parts) → p.exponent_negative ≡ true → tens_up p ≡ 0
up_if p e = ap (λ b. if b then 0 else digits_value 10 p.exponent) e

pub up_else : (p : Parts) → p.exponent_negative ≡ false → tens_up p ≡ digits_value 10 p.exponent
up_else p e = ap (λ b. if b then 0 else digits_value 10 p.exponent) e

pub down_if : (p : Parts) → p.exponent_negative ≡ true → tens_down p ≡ length p.fraction + digits_value 10 p.exponent
down_if p e = ap (λ b. length p.fraction + (if b then digits_value 10 p.exponent else 0)) e

pub down_else : (p : Parts) → p.exponent_negative ≡ false → tens_down p ≡ length p.fraction + 0
down_else p e = ap (λ b. length p.fraction + (if b then digits_value 10 p.exponent else 0)) e

-- an exponent beyond all lengths of texts
module _ (p : Parts) (d dropped q k : ℕ) (positive : 0 < d) (few : d < 10 ^ 100) (small : q < 2 ^ 53) (power : k ≤ 2045) (near : dropped < 2 ^ 64) (short : length p.fraction < 2 ^ 64)
    (great : 2 ^ 70 ≤ digits_value 10 p.exponent) where
  pub far_exponent : false ≡ is_near d (tens_up p + dropped) (tens_down p) q k
  far_exponent = by_sign p.exponent_negative refl
    where
      by_sign : (b : Bool) → p.exponent_negative ≡ b → false ≡ is_near d (tens_up p + dropped) (tens_down p) q k
      by_sign true e = far_down d (tens_up p + dropped) (tens_down p) q k positive few (omega (arith, up_if p e, down_if p e))
      by_sign false e = far_up d (tens_up p + dropped) (tens_down p) q k positive small power (omega (arith, up_else p e, down_else p e))
