-- The values of decimal digits.
use Rattle.std.proofs.Common.{◌≡◌, ℕ, zero, suc, ◌+◌, ◌*◌, ◌-◌, ◌<◌, ◌≤◌, Bool, true, false, not, ◌&&◌, List, [], ◌∷◌, ◌++◌, length, get_or, take, drop, nat_le, ltb, replicate, inl, inr, IsTrue, refl, sym, ap, ◌∙◌, subst, arith, length-append}
use Rattle.std.specs.List.{list_all}
use Rattle.std.proofs.lemmas.Bool.{cases_lt}
use Rattle.std.proofs.lemmas.Bool.Decides.{nat_tests}
use Rattle.std.proofs.lemmas.List.{take_all, take_more, drop_more, take-append-drop}
use Rattle.tokens.specs.Alphabet.{is_decimal_digit}
use Rattle.regular_expressions.specs.Terms.{decimal_value}
use Rattle.regular_expressions.specs.Scanned.{padded}

pub decimal_append : (before : ℕ) (v w : List ℕ) → decimal_value before (v ++ w) ≡ decimal_value (decimal_value before v) w
decimal_append before [] w = refl
decimal_append before (c ∷ v) w = decimal_append (10 * before + (c - 0x30)) v w

pub decimal_grows : (before : ℕ) (w : List ℕ) → before ≤ decimal_value before w
decimal_grows before [] = omega arith
decimal_grows before (c ∷ w) = let i = decimal_grows (10 * before + (c - 0x30)) w in omega arith

digit_small : (c : ℕ) → IsTrue (is_decimal_digit c) → c - 0x30 < 10
digit_small c h = grind (arith, nat_tests)

first_of : (a b : Bool) → IsTrue (a && b) → IsTrue a
first_of a b h = grind (arith, nat_tests)

second_of : (a b : Bool) → IsTrue (a && b) → IsTrue b
second_of a b h = grind (arith, nat_tests)

-- behind a smaller number the same number of digits makes a smaller one
pub decimal_order : (x y : ℕ) (v w : List ℕ) → x < y → IsTrue (list_all is_decimal_digit v) → length v ≡ length w → decimal_value x v < decimal_value y w
decimal_order x y [] [] lt h n = lt
decimal_order x y [] (d ∷ w) lt h n = absurd (omega arith)
decimal_order x y (c ∷ v) [] lt h n = absurd (omega arith)
decimal_order x y (c ∷ v) (d ∷ w) lt h n =
    let s = digit_small c (first_of (is_decimal_digit c) (list_all is_decimal_digit v) h) in
    decimal_order (10 * x + (c - 0x30)) (10 * y + (d - 0x30)) v w (omega arith) (second_of (is_decimal_digit c) (list_all is_decimal_digit v) h) (omega arith)

-- zeros in front change nothing
pub zeros_value : (k : ℕ) (w : List ℕ) → decimal_value 0 (replicate k 0x30 ++ w) ≡ decimal_value 0 w
zeros_value zero w = refl
zeros_value (suc k) w = zeros_value k w

pub padded_value : (w : List ℕ) (width : ℕ) → decimal_value 0 (padded w width) ≡ decimal_value 0 w
padded_value w width = zeros_value (width - length w) w

-- ---- two numbers with zeros in front, so that both have as many digits

pub zero_digits : (k : ℕ) (w : List ℕ) → IsTrue (list_all is_decimal_digit w) → IsTrue (list_all is_decimal_digit (replicate k 0x30 ++ w))
zero_digits zero w h = h
zero_digits (suc k) w h = zero_digits k w h

pub padded_length : (w : List ℕ) (width : ℕ) → length w ≤ width → length (padded w width) ≡ width
padded_length w width n = let a = length-append (replicate (width - length w) 0x30) w in let b = zeros_long (width - length w) in omega arith where
  zeros_long : (k : ℕ) → length {A = ℕ} (replicate k 0x30) ≡ k
  zeros_long zero = refl
  zeros_long (suc k) = ap suc (zeros_long k)

-- the first digits that differ decide
pub first_decides : (v w : List ℕ) (i : ℕ) → i < length v → length v ≡ length w → IsTrue (list_all is_decimal_digit v) → IsTrue (list_all is_decimal_digit w) →
    decimal_value 0 (take i v) ≡ decimal_value 0 (take i w) → get_or v i 0 < get_or w i 0 → decimal_value 0 v < decimal_value 0 w
first_decides v w i n e h k same lt = go 0 0 v w i n e h k same lt where
  go : (x y : ℕ) (v w : List ℕ) (i : ℕ) → i < length v → length v ≡ length w → IsTrue (list_all is_decimal_digit v) → IsTrue (list_all is_decimal_digit w) →
      decimal_value x (take i v) ≡ decimal_value y (take i w) → get_or v i 0 < get_or w i 0 → decimal_value x v < decimal_value y w
  go x y [] w i n e h k same lt = absurd (omega arith)
  go x y (c ∷ v) [] i n e h k same lt = absurd (omega arith)
  go x y (c ∷ v) (d ∷ w) zero n e h k same lt =
      let s = digit_small c (first_of (is_decimal_digit c) (list_all is_decimal_digit v) h) in
      let a = digit_low c (first_of (is_decimal_digit c) (list_all is_decimal_digit v) h) in
      decimal_order (10 * x + (c - 0x30)) (10 * y + (d - 0x30)) v w (omega arith) (second_of (is_decimal_digit c) (list_all is_decimal_digit v) h) (omega arith) where
        digit_low : (c : ℕ) → IsTrue (is_decimal_digit c) → 0x30 ≤ c
        digit_low c h = grind (arith, nat_tests)
  go x y (c ∷ v) (d ∷ w) (suc i) n e h k same lt =
      go (10 * x + (c - 0x30)) (10 * y + (d - 0x30)) v w i (omega arith) (omega arith) (second_of (is_decimal_digit c) (list_all is_decimal_digit v) h)
      (second_of (is_decimal_digit d) (list_all is_decimal_digit w) k) same lt

pub ordered_now : (least most : List ℕ) (width i low high : ℕ) → IsTrue (list_all is_decimal_digit least) → IsTrue (list_all is_decimal_digit most) → length least ≤ width → length most ≤ width → i < width →
    decimal_value 0 (take i (padded least width)) ≡ decimal_value 0 (take i (padded most width)) → low ≡ get_or (padded least width) i 0 → high ≡ get_or (padded most width) i 0 → ¬ (low ≡ high) →
    ltb low high ≡ nat_le (decimal_value 0 least) (decimal_value 0 most)
ordered_now least most width i low high h k n m lt same e f ne =
    let a = padded_value least width in
    let b = padded_value most width in
    let p = padded_length least width n in
    let q = padded_length most width m in
    let dh = zero_digits (width - length least) least h in
    let dk = zero_digits (width - length most) most k in
    elim (cases_lt low high) [
      | inl less ↦
          let r = first_decides (padded least width) (padded most width) i (omega arith) (omega arith) dh dk same (omega arith) in
          both low high (decimal_value 0 least) (decimal_value 0 most) less (omega arith)
      | inr more ↦
          let r = first_decides (padded most width) (padded least width) i (omega arith) (omega arith) dk dh (sym same) (omega arith) in
          none low high (decimal_value 0 least) (decimal_value 0 most) (omega arith) (omega arith)
    ] where
      both : (a b x y : ℕ) → a < b → x < y → ltb a b ≡ nat_le x y
      both a b x y h k = grind (arith, nat_tests)

      none : (a b x y : ℕ) → b < a → y < x → ltb a b ≡ nat_le x y
      none a b x y h k = grind (arith, nat_tests)

pub ordered_end : (least most : List ℕ) (width : ℕ) → length least ≤ width → length most ≤ width →
    decimal_value 0 (take width (padded least width)) ≡ decimal_value 0 (take width (padded most width)) → true ≡ nat_le (decimal_value 0 least) (decimal_value 0 most)
ordered_end least most width n m same =
    let a = padded_value least width in
    let b = padded_value most width in
    let p = padded_length least width n in
    let q = padded_length most width m in
    let e = ap (decimal_value 0) (take_all width (padded least width) (omega arith)) in
    let f = ap (decimal_value 0) (take_all width (padded most width) (omega arith)) in
    equal (decimal_value 0 least) (decimal_value 0 most) (sym a ∙ sym e ∙ same ∙ f ∙ b) where
      equal : (x y : ℕ) → x ≡ y → true ≡ nat_le x y
      equal x y e = grind (arith, nat_tests)

pub ordered_more : (least most : List ℕ) (width i low high : ℕ) → length least ≤ width → length most ≤ width → i < width →
    decimal_value 0 (take i (padded least width)) ≡ decimal_value 0 (take i (padded most width)) → low ≡ get_or (padded least width) i 0 → high ≡ get_or (padded most width) i 0 → low ≡ high →
    decimal_value 0 (take (i + 1) (padded least width)) ≡ decimal_value 0 (take (i + 1) (padded most width))
ordered_more least most width i low high n m lt same e f eq =
    let p = padded_length least width n in
    let q = padded_length most width m in
    one (padded least width) (omega arith) ∙ ap (λ x. decimal_value x (get_or (padded least width) i 0 ∷ [])) same
    ∙ ap (λ c. decimal_value (decimal_value 0 (take i (padded most width))) (c ∷ [])) (sym e ∙ eq ∙ f) ∙ sym (one (padded most width) (omega arith)) where
      one : (w : List ℕ) → i < length w → decimal_value 0 (take (i + 1) w) ≡ decimal_value (decimal_value 0 (take i w)) (get_or w i 0 ∷ [])
      one w h = ap (decimal_value 0) (take_more w i 0 h) ∙ decimal_append 0 (take i w) (get_or w i 0 ∷ [])

-- ---- a number beside another

pub exceeds_now : (digits : List ℕ) (i value limit : ℕ) → value ≡ decimal_value 0 (take i digits) → i < length digits → limit < 10 * value + (get_or digits i 0 - 0x30) →
    nat_le (decimal_value 0 digits) limit ≡ false
exceeds_now digits i value limit e n lt =
    let c = get_or digits i 0 in
    let whole : decimal_value 0 digits ≡ decimal_value (10 * value + (c - 0x30)) (drop (i + 1) digits) =
    ap (decimal_value 0) (sym (take-append-drop i digits)) ∙ decimal_append 0 (take i digits) (drop i digits) ∙ ap (λ x. decimal_value x (drop i digits)) (sym e)
    ∙ ap (decimal_value value) (drop_more digits i 0 n) in
    let g = decimal_grows (10 * value + (c - 0x30)) (drop (i + 1) digits) in
    large (decimal_value 0 digits) limit (omega arith) where
      large : (x y : ℕ) → y < x → nat_le x y ≡ false
      large x y h = grind (arith, nat_tests)

-- the same at the bytes of a text
pub exceeds_at : (digits bytes : List ℕ) (i value digit limit : ℕ) → bytes ≡ digits → value ≡ decimal_value 0 (take i digits) → i < length bytes → digit ≡ get_or bytes i 0 - 0x30 →
    limit < 10 * value + digit → nat_le (decimal_value 0 digits) limit ≡ false
exceeds_at digits bytes i value digit limit s e n d lt =
    exceeds_now digits i value limit e (subst (λ x. i < length x) s n) (subst (λ k. limit < 10 * value + k) (d ∙ ap (λ x. get_or x i 0 - 0x30) s) lt)

pub exceeds_more : (digits : List ℕ) (i value : ℕ) → value ≡ decimal_value 0 (take i digits) → i < length digits →
    10 * value + (get_or digits i 0 - 0x30) ≡ decimal_value 0 (take (i + 1) digits)
exceeds_more digits i value e n =
    ap (λ x. 10 * x + (get_or digits i 0 - 0x30)) e ∙ sym (ap (decimal_value 0) (take_more digits i 0 n) ∙ decimal_append 0 (take i digits) (get_or digits i 0 ∷ []))

pub exceeds_whole : (digits : List ℕ) (i value : ℕ) → value ≡ decimal_value 0 (take i digits) → length digits ≤ i → value ≡ decimal_value 0 digits
exceeds_whole digits i value e n = e ∙ ap (decimal_value 0) (take_all i digits n)
