-- Comparisons of products, and powers that settle them.
use Rattle.std.proofs.Common.{◌≡◌, ℕ, zero, suc, ◌+◌, ◌-◌, ◌*◌, ◌^◌, ◌<◌, ◌≤◌, true, false, List, [], ◌∷◌, get_or, length, take, sym, ap, ◌∙◌, arith, le-leb, lt-ltb, le-ltb, ltb-true, ltb-false, inl, inr, add-one, ap₂, suc-le-suc}
use Rattle.std.specs.Prelude.{◌&&◌, nat_le, nat_lt}
use Rattle.std.specs.Str.Parse.{AllDigits, digits_value}
use Rattle.std.proofs.Math.Dec.{lit≤}
use Rattle.std.proofs.Math.Nat.{le_of_lt, le_trans, lt_of_le_of_lt, lt_of_lt_of_le, mul-le-mul, mul-le-mul_left, mul-le-mul_right, mul-lt-mul_of_pos_right, pow-le-pow_right, pow-suc}
use Rattle.std.proofs.lemmas.Bool.{cases_lt, lt-leb}
use Rattle.std.proofs.lemmas.Nat.{pow-add, pow_pos}
use Rattle.std.proofs.lemmas.Int.Digits.{digits_value-lt, digits_value_more}
use Rattle.std.proofs.lemmas.Str.Parse.{digits_value-take-le}
use Rattle.std.specs.Char.{digit_value}
use Rattle.number_precision.specs.Limbs.{limb_weight}
use Rattle.number_precision.specs.Near.{is_near}

-- a factor that both sides have
pub le-scaled : (x y c : ℕ) → 0 < c → nat_le (x * c) (y * c) ≡ nat_le x y
le-scaled x y c p =
    elim (cases_lt y x) [
      | inl l ↦ lt-leb _ _ (mul-lt-mul_of_pos_right l p) ∙ sym (lt-leb _ _ l)
      | inr l ↦ le-leb _ _ (mul-le-mul_right c l) ∙ sym (le-leb _ _ l)
    ]

pub lt-scaled : (x y c : ℕ) → 0 < c → nat_lt (x * c) (y * c) ≡ nat_lt x y
lt-scaled x y c p =
    elim (cases_lt x y) [
      | inl l ↦ lt-ltb _ _ (mul-lt-mul_of_pos_right l p) ∙ sym (lt-ltb _ _ l)
      | inr l ↦ le-ltb _ _ (mul-le-mul_right c l) ∙ sym (le-ltb _ _ l)
    ]

-- a product has room if one of greater factors has
pub has_room : (x most b n power : ℕ) → 0 < b → x ≤ most → n ≤ power → most * b ^ power < limb_weight 74 → x * b ^ n < limb_weight 74
has_room x most b n power p l k h = lt_of_le_of_lt (mul-le-mul l (pow-le-pow_right p k)) h

pub is_room : (n : ℕ) → n < 2 ^ 4736 → n < limb_weight 74
unfolding limb_weight
is_room n h = h

-- a hundred digits are less than 10 ^ 100
pub few : (ds : List ℕ) → AllDigits 10 ds → length ds ≤ 100 → digits_value 10 ds < 10 ^ 100
few ds a l = lt_of_lt_of_le (digits_value-lt 10 ds a) (pow-le-pow_right (lit≤ tt) l)

pub digit_at : (ds : List ℕ) (i d : ℕ) → AllDigits 10 ds → i < length ds → digit_value (get_or ds i d) < 10
digit_at [] i d a l = absurd (none l)
  where
    none : i < 0 → ⊥
    none h = omega arith
digit_at (c ∷ cs) zero d a l = a.0
digit_at (c ∷ cs) (suc i) d a l = digit_at cs i d a.1 (omega arith)

-- twice the number of the first digits, less 1, behind one more
module _ (ds : List ℕ) (i big r : ℕ) (a : AllDigits 10 ds) (few_digits : length ds ≤ 100) (l : i < length ds) (so : big + 1 ≡ 2 * digits_value 10 (take i ds))
    (read : digit_value (get_or ds i 0) < 10 → r ≡ digit_value (get_or ds i 0)) where
  pub doubled-turn : big * 10 + (2 * r + 9) + 1 ≡ 2 * digits_value 10 (take (i + 1) ds)
  doubled-turn = omega (arith, read (digit_at ds i 0 a l), digits_value_more 10 ds i l)

  pub doubled-room : big * 10 + (2 * r + 9) < limb_weight 74
  doubled-room =
      let most : 2 * digits_value 10 (take (i + 1) ds) ≤ 2 * 10 ^ 100 = mul-le-mul_left 2 (le_trans (digits_value-take-le 10 ds (i + 1) (lit≤ tt)) (le_of_lt (few ds a few_digits))) in
      is_room _ (lt_of_lt_of_le (omega (arith, doubled-turn)) (le_trans most (lit≤ tt)))

pub doubled-small : (ds : List ℕ) (big : ℕ) → AllDigits 10 ds → length ds ≤ 100 → big + 1 ≡ 2 * digits_value 10 ds → big + 2 < 2 ^ 340
doubled-small ds big a l e =
    let most : 2 * digits_value 10 ds ≤ 2 * 10 ^ 100 = mul-le-mul_left 2 (le_of_lt (few ds a l)) in
    let next : big + 2 ≤ 2 * 10 ^ 100 + 1 = omega (arith, e, most) in
    le_trans (suc-le-suc next) (lit≤ tt)

-- both sides of a comparison, by a power of two that they have
module _ (n a b c k : ℕ) (x q tens tenths : ℕ) (m : n ≡ a + c) (e : k + 1 ≡ b + c) where
  digits-side : x * tens * 2 ^ n ≡ x * 2 ^ a * tens * 2 ^ c
  digits-side = let s : 2 ^ n ≡ 2 ^ a * 2 ^ c = ap (λ y. 2 ^ y) m ∙ pow-add 2 a c in omega (arith, ap (λ y. x * tens * y) s)

  value-side : 2 * q * 2 ^ k * tenths ≡ q * 2 ^ b * tenths * 2 ^ c
  value-side =
      let s : 2 ^ k * 2 ≡ 2 ^ b * 2 ^ c = sym (pow-suc 2 k) ∙ ap (λ y. 2 ^ y) (sym (add-one k) ∙ e) ∙ pow-add 2 b c in
      omega (arith, ap (λ y. q * tenths * y) s)

  pub le-by-twos : nat_le (x * tens * 2 ^ n) (2 * q * 2 ^ k * tenths) ≡ nat_le (x * 2 ^ a * tens) (q * 2 ^ b * tenths)
  le-by-twos = ap₂ nat_le digits-side value-side ∙ le-scaled _ _ (2 ^ c) (pow_pos c)

  pub lt-by-twos : nat_lt (2 * q * 2 ^ k * tenths) (x * tens * 2 ^ n) ≡ nat_lt (q * 2 ^ b * tenths) (x * 2 ^ a * tens)
  lt-by-twos = ap₂ nat_lt value-side digits-side ∙ lt-scaled _ _ (2 ^ c) (pow_pos c)

-- comparisons of numbers by their powers
module _ (digits tens tenths q k c low value : ℕ) (first : c ≤ k + 1) (second : c ≤ 1074) (v : value ≡ q * 2 ^ (k + 1 - c) * 10 ^ tenths) where
  le-side : low ≡ (2 * digits - 1) * 2 ^ (1074 - c) * 10 ^ tens → nat_le ((2 * digits - 1) * 10 ^ tens * 2 ^ 1074) (2 * q * 2 ^ k * 10 ^ tenths) ≡ nat_le low value
  le-side l = le-by-twos 1074 (1074 - c) (k + 1 - c) c k (2 * digits - 1) q (10 ^ tens) (10 ^ tenths) (omega arith) (omega arith) ∙ sym (ap₂ nat_le l v)

  lt-side : (high : ℕ) → high ≡ (2 * digits + 1) * 2 ^ (1074 - c) * 10 ^ tens → nat_lt (2 * q * 2 ^ k * 10 ^ tenths) ((2 * digits + 1) * 10 ^ tens * 2 ^ 1074) ≡ nat_lt value high
  lt-side high h = lt-by-twos 1074 (1074 - c) (k + 1 - c) c k (2 * digits + 1) q (10 ^ tens) (10 ^ tenths) (omega arith) (omega arith) ∙ sym (ap₂ nat_lt v h)

  pub is_low : low ≡ (2 * digits - 1) * 2 ^ (1074 - c) * 10 ^ tens → nat_lt value low ≡ true → false ≡ is_near digits tens tenths q k
  is_low l h = ap (λ b. b && nat_lt (2 * q * 2 ^ k * 10 ^ tenths) ((2 * digits + 1) * 10 ^ tens * 2 ^ 1074)) (sym (le-side l ∙ lt-leb low value (ltb-true value low h)))

  pub by_high : (high : ℕ) → low ≡ (2 * digits - 1) * 2 ^ (1074 - c) * 10 ^ tens → high ≡ (2 * digits + 1) * 2 ^ (1074 - c) * 10 ^ tens → nat_lt value low ≡ false
      → nat_lt value high ≡ is_near digits tens tenths q k
  by_high high l h n = ap₂ (λ a b. a && b) (sym (le-side l ∙ le-leb low value (ltb-false value low n))) (sym (lt-side high h))
