-- Integers of at most fifteen digits are kept.
use Rattle.std.proofs.Common.{◌≡◌, ℕ, suc, ◌+◌, ◌-◌, ◌*◌, ◌^◌, ◌<◌, ◌≤◌, Bool, true, false, List, [], ◌∷◌, ◌++◌, length, drop, refl, sym, ap, ap₂, ◌∙◌, subst, arith, append-nil, le-leb, lt-ltb, le-ltb, eqb-true}
use Rattle.std.specs.Prelude.{◌&&◌, ◌||◌, not, nat_lt, slice_index, if◌then◌else◌}
use Rattle.std.specs.Char.{digit_value}
use Rattle.std.specs.Float.{Float, binary64, nan, inf, fin}
use Rattle.std.specs.Float.Ieee.{down, round, up}
use Rattle.std.specs.Float.Ieee.Back.{round_whole}
use Rattle.std.specs.Float.Ieee.Exact.{HasValue}
use Rattle.std.specs.Float.Ieee.Fits.{down_pos}
use Rattle.std.specs.Float.Numeral.{IsWellFormed, Parts, nearest_float, scan_numeral}
use Rattle.std.specs.Str.Parse.{AllDigits, digits_value, digits_value_after}
use Rattle.std.proofs.Math.Dec.{lit≤}
use Rattle.std.proofs.Math.Nat.{le_of_lt, le_trans, mul-le-mul_right, mul-one, mul-pos, pow-le-pow_right, pow-suc}
use Rattle.std.proofs.lemmas.Bool.Decides.{nat_tests}
use Rattle.std.proofs.lemmas.Float.Parse.{scan_numeral-text_of}
use Rattle.std.proofs.lemmas.Int.Digits.{digits_value-lt}
use Rattle.tokens.specs.Alphabet.{one_of}
use Rattle.number_precision.specs.Digits.{behind_digit, trimmed, without_separators, without_zeros}
use Rattle.number_precision.specs.Precision.{bits_of, counted, is_rounded, loses, loses_binary, loses_decimal, loses_precision, significant}
use Rattle.number_precision.proofs.DigitLists.{left_of, trimmed-shorter, zero_first}
use Rattle.number_precision.proofs.LimbsLemmas.{power_pos}

-- zeros at the end are powers of ten
abbrev Scaled : List ℕ → List ℕ → Type 0
Scaled ds kept = (n : ℕ) → digits_value_after 10 n ds ≡ digits_value_after 10 n kept * 10 ^ (length ds - length kept)

behind-one : (c : ℕ) (cs kept : List ℕ) → length kept ≤ length cs → Scaled cs kept → Scaled (c ∷ cs) (behind_digit c kept)
behind-one c cs (d ∷ ds) l s n = s (n * 10 + digit_value c) ∙ ap (λ k. digits_value_after 10 (n * 10 + digit_value c) (d ∷ ds) * 10 ^ k) (same (length cs) (length ds))
  where
    same : (a b : ℕ) → a - suc b ≡ suc a - suc (suc b)
    same a b = omega arith
behind-one c cs [] l s n = by_test (one_of "0" c) refl
  where
    zeros : (x v k : ℕ) → v ≡ 0 → (x * 10 + v) * 10 ^ (k - 0) ≡ x * 10 ^ (suc k - 0)
    zeros x v k z = let p : 10 ^ suc k ≡ 10 ^ k * 10 = pow-suc 10 k in
        let a : 10 ^ (k - 0) ≡ 10 ^ k = ap (λ y. 10 ^ y) (omega arith) in
        let b : 10 ^ (suc k - 0) ≡ 10 ^ suc k = ap (λ y. 10 ^ y) (omega arith) in
        omega (arith, ap (λ y. x * y) p, ap (λ y. (x * 10 + v) * y) a, ap (λ y. x * y) b, ap (λ y. y * 10 ^ k) z)

    one : (x k : ℕ) → x * 10 ^ (k - 0) ≡ x * 10 ^ (suc k - 1)
    one x k = ap (λ y. x * 10 ^ y) (omega arith)

    by_test : (b : Bool) → one_of "0" c ≡ b → digits_value_after 10 (n * 10 + digit_value c) cs ≡ digits_value_after 10 n (if b then [] else c ∷ []) * 10 ^ (suc (length cs) - length (if b then [] else c ∷ []))
    by_test true z = s (n * 10 + digit_value c) ∙ zeros n (digit_value c) (length cs) (ap digit_value (eqb-true c 48 z))
    by_test false z = s (n * 10 + digit_value c) ∙ one (n * 10 + digit_value c) (length cs)

scaled : (ds : List ℕ) → Scaled ds (trimmed ds)
scaled [] n = omega arith
scaled (c ∷ cs) n = behind-one c cs (trimmed cs) (trimmed-shorter cs) (scaled cs) n

without : (ds : List ℕ) → digits_value 10 (without_zeros ds) ≡ digits_value 10 ds
without [] = refl
without (c ∷ cs) = by_first c cs (one_of "0" c) refl (without cs)
  where
    by_first : (c : ℕ) (cs : List ℕ) (b : Bool) → one_of "0" c ≡ b → digits_value 10 (without_zeros cs) ≡ digits_value 10 cs → digits_value 10 (if b then without_zeros cs else c ∷ cs) ≡ digits_value 10 (c ∷ cs)
    by_first c cs true z e = e ∙ sym (zero_first c cs z)
    by_first c cs false z e = refl

-- a number that is its literal
exact : (v : Float) (d t n : ℕ) → d * 10 ^ t ≡ n → HasValue v false n 1 → is_rounded d (0 + t) 0 v ≡ true
exact nan d t n e h = absurd h
exact (inf s) d t n e h = absurd h
exact (fin s m z) d t n e h =
    let tens : 0 + t ≡ t = omega arith in
    let some = mul-pos (power_pos 10 t (lit≤ tt)) (down_pos z) in
    subst (λ k. is_rounded d k 0 (fin s m z) ≡ true) (sym tens)
    (ap₂ (λ a b. a && b) (le-leb _ _ (low (2 * d - 1) (10 ^ t) (down z) m (up z) d n (omega arith) e h.1)) (lt-ltb _ _ (high (10 ^ t) (down z) m (up z) d n some e h.1)))
  where
    low : (x a b m u d n : ℕ) → x ≤ 2 * d → d * a ≡ n → m * u * 1 ≡ n * b → x * a * b ≤ 2 * m * u * 1
    low x a b m u d n l e h =
        let s = mul-le-mul_right b (mul-le-mul_right a l) in
        omega (arith, s, h, ap (λ y. y * b) e)

    high : (a b m u d n : ℕ) → 0 < a * b → d * a ≡ n → m * u * 1 ≡ n * b → 2 * m * u * 1 < (2 * d + 1) * a * b
    high a b m u d n p e h = omega (arith, p, h, ap (λ y. y * b) e)

-- ---- a text of digits

no_separator : (c : ℕ) → digit_value c < 10 → one_of "_" c ≡ false
no_separator c d = grind (arith, nat_tests)

plain : (ds : List ℕ) → AllDigits 10 ds → without_separators ds ≡ ds
plain [] a = refl
plain (c ∷ cs) a = ap (λ b. if b then without_separators cs else c ∷ without_separators cs) (no_separator c a.0) ∙ ap (λ l. c ∷ l) (plain cs a.1)

digit_bits : (c : ℕ) → digit_value c < 10 → bits_of c ≡ 0
digit_bits c d = grind (arith, nat_tests)

no_bits : (ds : List ℕ) → AllDigits 10 ds → bits_of (slice_index ds 1) ≡ 0
no_bits [] a = refl
no_bits (c ∷ []) a = refl
no_bits (c ∷ d ∷ ds) a = digit_bits d a.1.0

module _ (ds : List ℕ) (a : AllDigits 10 ds) (short : length ds ≤ 15) where
  abbrev parts : Parts
  parts = record { whole = ds; point = false; fraction = []; exponent_negative = false; exponent = []; len = length ds }

  well_formed : IsWellFormed parts
  well_formed = record { whole_digits = a; fraction_digits = tt; exponent_digits = tt; no_point = λ e. refl; no_exponent = λ e. refl; len_is = ap length (sym (append-nil ds)) }

  scanned : scan_numeral ds ≡ parts
  scanned = ap scan_numeral (sym (append-nil ds)) ∙ scan_numeral-text_of parts well_formed

  digits : AllDigits 10 (ds ++ [])
  digits = subst (AllDigits 10) (sym (append-nil ds)) a

  small : digits_value 10 (ds ++ []) ≤ 2 ^ 53
  small =
      let l : length (ds ++ []) ≤ 15 = subst (λ xs. length xs ≤ 15) (sym (append-nil ds)) short in
      le_trans (le_of_lt (digits_value-lt 10 (ds ++ []) digits)) (le_trans (pow-le-pow_right (lit≤ tt) l) (lit≤ tt))

  value : HasValue (nearest_float binary64 false parts) false (digits_value 10 (ds ++ [])) 1
  value = subst (λ n. HasValue (round binary64 false n 1) false (digits_value 10 (ds ++ [])) 1) (sym (mul-one (digits_value 10 (ds ++ [])))) (round_whole binary64 false (digits_value 10 (ds ++ [])) small)

  kept : false ≡ loses_decimal parts
  kept =
      let l = (left_of false (ds ++ []) digits).shorter in
      let m : length (significant parts) ≤ 100 = le_trans l (subst (λ xs. length xs ≤ 100) (sym (append-nil ds)) (le_trans short (lit≤ tt))) in
      sym
      (ap₂ (λ x y. x || not y) (le-ltb 100 (length (significant parts)) m)
      (exact (nearest_float binary64 false parts) (digits_value 10 (significant parts)) (length (counted parts) - length (significant parts)) (digits_value 10 (ds ++ [])) (sym (scaled (without_zeros (ds ++ [])) 0) ∙ without (ds ++ [])) value))

  pub short_kept : false ≡ loses_precision ds
  short_kept =
      kept ∙ sym
      (ap loses (plain ds a) ∙ ap (λ b. if nat_lt 0 b then loses_binary b (drop 2 ds) else loses_decimal (scan_numeral ds)) (no_bits ds a) ∙ ap loses_decimal scanned)
