-- The number that limbs hold, limb by limb.
use Rattle.std.specs.Prelude.{◌≡◌, ℕ, zero, suc, ◌+◌, ◌-◌, ◌*◌, ◌/◌, ◌%◌, ◌^◌, ◌<◌, ◌≤◌, List, replicate, length, get_or, slice_index, set}
use Rattle.std.proofs.Common.{refl, ap, ◌∙◌}
use Rattle.std.proofs.Common.{inl, inr}
use Rattle.std.proofs.Common.{arith}
use Rattle.std.proofs.Common.{add-one}
use Rattle.std.proofs.Common.{eq-zero-or-pos, mul-le-mul_right, mul-le-mul_left, mul-pos, lt_of_lt_of_le, pow-suc}
use Rattle.std.proofs.Common.{lit≤}
use Rattle.std.proofs.Common.{pow-add}
use Rattle.std.proofs.Common.{get_or-set_same, get_or-set_other}
use Rattle.std.proofs.Math.Nat.{pow-zero}
use Rattle.number_precision.specs.Limbs.{limb_weight, value_below, AreZeroFrom}

pub value_below-zero : (xs : List ℕ) → value_below xs 0 ≡ 0
unfolding value_below
value_below-zero xs = refl

pub value_below-suc : (xs : List ℕ) (i : ℕ) → value_below xs (i + 1) ≡ value_below xs i + get_or xs i 0 * limb_weight i
unfolding value_below
value_below-suc xs i = rw add-one

pub limb_weight-zero : limb_weight 0 ≡ 1
unfolding limb_weight
limb_weight-zero = refl

pub limb_weight-suc : (i : ℕ) → limb_weight (i + 1) ≡ limb_weight i * 2 ^ 64
unfolding limb_weight
limb_weight-suc i = rw add-one (pow-suc (2 ^ 64) i)

value_below_same : (xs ys : List ℕ) (n : ℕ) → ((i : ℕ) → i < n → get_or xs i 0 ≡ get_or ys i 0) → value_below xs n ≡ value_below ys n
unfolding value_below
value_below_same xs ys zero h = refl
value_below_same xs ys (suc n) h = λ j. value_below_same xs ys n (λ i l. h i (omega arith)) j + h n (omega arith) j * limb_weight n

pub value_below-set : (xs : List ℕ) (i v : ℕ) → i < length xs → value_below (set xs i v) (i + 1) ≡ value_below xs i + v * limb_weight i
value_below-set xs i v h =
    value_below-suc (set xs i v) i
    ∙ (λ j. value_below_same (set xs i v) xs i (λ k l. get_or-set_other xs i k v 0 (λ e. omega arith)) j + get_or-set_same xs i v 0 h j * limb_weight i)

value_below-lt : (xs : List ℕ) (n : ℕ) → ((i : ℕ) → get_or xs i 0 < 2 ^ 64) → value_below xs n < limb_weight n
unfolding value_below limb_weight
value_below-lt xs zero h = omega arith
value_below-lt xs (suc n) h = omega (arith, value_below-lt xs n h, pow-suc (2 ^ 64) n, mul-le-mul_right (limb_weight n) (h n))

-- limbs that are 0 add nothing
pub value_below_zeros : (xs : List ℕ) (n m : ℕ) → AreZeroFrom xs n → n ≤ m → value_below xs m ≡ value_below xs n
unfolding value_below
value_below_zeros xs n zero z h = let e : 0 ≡ n = omega arith in ap (value_below xs) e
value_below_zeros xs n (suc m) z h =
    elim (eq-zero-or-pos (suc m - n)) [
      | inl e ↦ let s : suc m ≡ n = omega arith in ap (value_below xs) s
      | inr p ↦ omega (arith, value_below_zeros xs n m z (omega arith), ap (λ x. x * limb_weight m) (z m (omega arith)))
    ]

-- one limb's step of a multiplication
pub mul_add_step : (done old x by add carry w : ℕ) → done + carry * w ≡ old * by + add
    → done + (x * by + carry) % 2 ^ 64 * w + (x * by + carry) / 2 ^ 64 * (w * 2 ^ 64) ≡ (old + x * w) * by + add
mul_add_step done old x by add carry w h =
    let wide = x * by + carry in
    let parts : wide % 2 ^ 64 + wide / 2 ^ 64 * 2 ^ 64 ≡ x * by + carry = omega arith in
    omega (arith, ap (λ t. t * w) parts)

-- the upper limb decides
pub value_below_less : (xs ys : List ℕ) (i : ℕ) → ((k : ℕ) → get_or xs k 0 < 2 ^ 64) → get_or xs i 0 < get_or ys i 0 → value_below xs (i + 1) < value_below ys (i + 1)
value_below_less xs ys i fit h = omega (arith, value_below-suc xs i, value_below-suc ys i, value_below-lt xs i fit, mul-le-mul_right (limb_weight i) h)

pub word_fits : (n : ℕ) → n < 2 ^ 64 → n < limb_weight 74
unfolding limb_weight
word_fits n h = lt_of_lt_of_le h (lit≤ tt)

pub zeros : (n i : ℕ) → slice_index (replicate n 0) i ≡ 0
zeros zero i = refl
zeros (suc n) zero = refl
zeros (suc n) (suc i) = zeros n i

pub power_pos : (b k : ℕ) → 0 < b → 0 < b ^ k
power_pos b zero p = rw pow-zero (omega arith)
power_pos b (suc k) p = rw pow-suc (mul-pos (power_pos b k p) p)

-- k of the n factors are multiplied in first
pub power_step : (b k x n : ℕ) → 0 < b → k ≤ n → ((x * b ^ k + 0) * b ^ (n - k) ≡ x * b ^ n) × (x * b ^ k ≤ x * b ^ n)
power_step b k x n p h =
    let e : n ≡ k + (n - k) = omega arith in
    let s : b ^ n ≡ b ^ k * b ^ (n - k) = ap (λ y. b ^ y) e ∙ pow-add b k (n - k) in
    (omega (arith, ap (λ y. x * y) s), omega (arith, ap (λ y. x * y) s, mul-le-mul_left (x * b ^ k) (power_pos b (n - k) p)))
