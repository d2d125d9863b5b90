-- A number that ends in `n` stands apart from `.`, `+` and `-` too.
use Rattle.std.proofs.Common.{◌≡◌, ℕ, ◌<◌, ◌≤◌, Bool, true, false, not, ◌||◌, List, [], ◌∷◌, ◌++◌, length, refl, sym, ap, ◌∙◌, subst, arith, IsTrue, length-append, inl, inr, ◌⊎◌}
use Rattle.std.specs.Prelude.{encode_utf8_all, ◌==◌, if◌then◌else◌}
use Rattle.std.specs.Char.{encode_utf8, is_ascii_alphabetic}
use Rattle.std.specs.Str.{chars}
use Rattle.std.proofs.lemmas.Bool.{cases_lt, false≢true, true≢false}
use Rattle.std.proofs.lemmas.Bool.Decides.{nat_tests}
use Rattle.std.proofs.lemmas.Str.{encode_ascii, encodes-chars, length-encode, len_utf8_bounds}
use Rattle.tokens.specs.Alphabet.{one_of, is_identifier_start, is_decimal_digit, is_non_zero_digit, is_hex_digit}
use Rattle.tokens.specs.Numbers.{Numeral, Base, unread, zero_read, integer, leading_point, point, fraction, exponent_mark, exponent_sign, exponent, prefix, digits, integer_separator, fraction_separator, exponent_separator, digits_separator, suffix, no_numeral, binary, octal, hexadecimal, is_digit_of, after_integer, next_numeral, numeral_after, is_complete}
use Rattle.tokens.specs.declared.token.TokenClass.TheVariants.{NumericLiteral}
use Rattle.tokens.specs.declared.token.Goal.TheVariants.{Div}
use Rattle.tokens.specs.Lexical.{is_of, is_token}
use Rattle.tokens.proofs.Names.{ascii_start}
use Rattle.tokens.proofs.Beginnings.{true_false}
use Rattle.language.specs.Vocabulary.{is_open_number}
use Rattle.language.proofs.layout.ReadItems.{Apart}
use Rattle.language.proofs.layout.WordsApart.{Word, is_closer, is_sign_closer, closes_word, chars_front, closer_low, div_allows}
use Rattle.language.proofs.layout.LiteralsApart.{number_longest, number_no_comment}

-- the test looks at the last code alone
last_tells : (xs : List ℕ) (y : ℕ) (ys : List ℕ) → is_open_number NumericLiteral (xs ++ y ∷ ys) ≡ is_open_number NumericLiteral (y ∷ ys)
last_tells [] y ys = refl
last_tells (x ∷ []) y ys = refl
last_tells (x ∷ z ∷ xs) y ys = last_tells (z ∷ xs) y ys

choose : {X : Type 0} (a : Bool) (x : X) {y : X} → a ≡ false → (if a then x else y) ≡ y
choose true x h = absurd (true≢false h)
choose false x h = refl

-- no number has a character that isn't ASCII
high_dies : (s : Numeral) (c : ℕ) → 128 ≤ c → next_numeral s c ≡ no_numeral
high_dies s c h = of s
  where
    ten : (c : ℕ) → 128 ≤ c → is_decimal_digit c ≡ false
    ten c h = grind (arith, nat_tests)

    hex : (c : ℕ) → 128 ≤ c → is_hex_digit c ≡ false
    hex c h = grind (arith, nat_tests)

    digit : (b : Base) → is_digit_of b c ≡ false
    digit binary = bin c h
      where
        bin : (c : ℕ) → 128 ≤ c → is_digit_of binary c ≡ false
        bin c h = grind (arith, nat_tests)
    digit octal = oct c h
      where
        oct : (c : ℕ) → 128 ≤ c → is_digit_of octal c ≡ false
        oct c h = grind (arith, nat_tests)
    digit hexadecimal = hex c h

    separator : (c : ℕ) → 128 ≤ c → one_of "_" c ≡ false
    separator c h = grind (arith, nat_tests)

    dot : (c : ℕ) → 128 ≤ c → one_of "." c ≡ false
    dot c h = grind (arith, nat_tests)

    mark : (c : ℕ) → 128 ≤ c → one_of "eE" c ≡ false
    mark c h = grind (arith, nat_tests)

    big : (c : ℕ) → 128 ≤ c → one_of "n" c ≡ false
    big c h = grind (arith, nat_tests)

    bases : (c : ℕ) → 128 ≤ c → (one_of "bB" c ≡ false) × ((one_of "oO" c ≡ false) × (one_of "xX" c ≡ false))
    bases c h = (grind (arith, nat_tests), (grind (arith, nat_tests), grind (arith, nat_tests)))

    zero_code : (c : ℕ) → 128 ≤ c → one_of "0" c ≡ false
    zero_code c h = grind (arith, nat_tests)

    others : (c : ℕ) → 128 ≤ c → is_non_zero_digit c ≡ false
    others c h = grind (arith, nat_tests)

    signs : (c : ℕ) → 128 ≤ c → one_of "+-" c ≡ false
    signs c h = grind (arith, nat_tests)

    whole : after_integer c ≡ no_numeral
    whole = choose (one_of "." c) _ (dot c h) ∙ (choose (one_of "eE" c) _ (mark c h) ∙ choose (one_of "n" c) _ (big c h))

    of : (s : Numeral) → next_numeral s c ≡ no_numeral
    of unread = choose (one_of "0" c) _ (zero_code c h) ∙ (choose (is_non_zero_digit c) _ (others c h) ∙ choose (one_of "." c) _ (dot c h))
    of zero_read = let u = bases c h in choose (one_of "bB" c) _ u.0 ∙ (choose (one_of "oO" c) _ u.1.0 ∙ (choose (one_of "xX" c) _ u.1.1 ∙ whole))
    of integer = choose (is_decimal_digit c) _ (ten c h) ∙ (choose (one_of "_" c) _ (separator c h) ∙ whole)
    of leading_point = choose (is_decimal_digit c) _ (ten c h)
    of point = choose (is_decimal_digit c) _ (ten c h) ∙ choose (one_of "eE" c) _ (mark c h)
    of fraction = choose (one_of "_" c) _ (separator c h) ∙ choose (is_decimal_digit c) _ (ten c h) ∙ choose (one_of "eE" c) _ (mark c h)
    of exponent_mark = choose (is_decimal_digit c) _ (ten c h) ∙ choose (one_of "+-" c) _ (signs c h)
    of exponent_sign = choose (is_decimal_digit c) _ (ten c h)
    of exponent = choose (is_decimal_digit c) _ (ten c h) ∙ choose (one_of "_" c) _ (separator c h)
    of (prefix b) = choose (is_digit_of b c) _ (digit b)
    of (digits b) = choose (is_digit_of b c) _ (digit b) ∙ (choose (one_of "n" c) _ (big c h) ∙ choose (one_of "_" c) _ (separator c h))
    of integer_separator = choose (is_decimal_digit c) _ (ten c h)
    of fraction_separator = choose (is_decimal_digit c) _ (ten c h)
    of exponent_separator = choose (is_decimal_digit c) _ (ten c h)
    of (digits_separator b) = choose (is_digit_of b c) _ (digit b)
    of suffix = refl
    of no_numeral = refl

-- behind `n` nothing goes on
n_ends : (s : Numeral) → IsTrue (is_complete (next_numeral s 110)) → next_numeral s 110 ≡ suffix
n_ends unread k = absurd (true_false _ k refl)
n_ends zero_read k = refl
n_ends integer k = refl
n_ends leading_point k = absurd (true_false _ k refl)
n_ends point k = absurd (true_false _ k refl)
n_ends fraction k = absurd (true_false _ k refl)
n_ends exponent_mark k = absurd (true_false _ k refl)
n_ends exponent_sign k = absurd (true_false _ k refl)
n_ends exponent k = absurd (true_false _ k refl)
n_ends (prefix binary) k = absurd (true_false _ k refl)
n_ends (prefix octal) k = absurd (true_false _ k refl)
n_ends (prefix hexadecimal) k = absurd (true_false _ k refl)
n_ends (digits binary) k = refl
n_ends (digits octal) k = refl
n_ends (digits hexadecimal) k = refl
n_ends integer_separator k = absurd (true_false _ k refl)
n_ends fraction_separator k = absurd (true_false _ k refl)
n_ends exponent_separator k = absurd (true_false _ k refl)
n_ends (digits_separator binary) k = absurd (true_false _ k refl)
n_ends (digits_separator octal) k = absurd (true_false _ k refl)
n_ends (digits_separator hexadecimal) k = absurd (true_false _ k refl)
n_ends suffix k = absurd (true_false _ k refl)
n_ends no_numeral k = absurd (true_false _ k refl)

last_n : (s : Numeral) (c : ℕ) → IsTrue (is_complete (next_numeral s c)) → is_open_number NumericLiteral (encode_utf8 c ++ []) ≡ false → next_numeral s c ≡ suffix
last_n s c k h = of (cases_lt c 128)
  where
    is_n : (c : ℕ) → not (c == 110) ≡ false → c ≡ 110
    is_n c h = grind (arith, nat_tests)

    of : (c < 128) ⊎ (128 ≤ c) → next_numeral s c ≡ suffix
    of (inl low) =
        let e : c ≡ 110 = is_n c (sym (ap (λ x. is_open_number NumericLiteral (x ++ [])) (encode_ascii c low)) ∙ h) in
        ap (next_numeral s) e ∙ n_ends s (subst (λ x. IsTrue (is_complete (next_numeral s x))) e k)
    of (inr high) = absurd (true_false _ k (ap is_complete (high_dies s c high)))

ends_at_suffix : (s : Numeral) (c : ℕ) (cs : List ℕ) → IsTrue (is_complete (numeral_after s (c ∷ cs))) → is_open_number NumericLiteral (encode_utf8_all (c ∷ cs)) ≡ false → numeral_after s (c ∷ cs) ≡ suffix
ends_at_suffix s c [] k h = last_n s c k h
ends_at_suffix s c (d ∷ cs) k h = ends_at_suffix (next_numeral s c) d cs k (sym (later (encode_utf8_all (d ∷ cs)) (omega (arith, length-append (encode_utf8 d) (encode_utf8_all cs), length-encode d, (len_utf8_bounds d).0))) ∙ h)
  where
    later : (ys : List ℕ) → 0 < length ys → is_open_number NumericLiteral (encode_utf8 c ++ ys) ≡ is_open_number NumericLiteral ys
    later [] some = absurd (omega arith)
    later (y ∷ ys) some = last_tells (encode_utf8 c) y ys

big_ends : (w cs : List ℕ) → IsTrue (is_of NumericLiteral cs) → encode_utf8_all cs ≡ w → is_open_number NumericLiteral w ≡ false → numeral_after unread cs ≡ suffix
big_ends w [] k e h = absurd (true_false _ k refl)
big_ends w (c ∷ cs) k e h = ends_at_suffix unread c cs k (ap (is_open_number NumericLiteral) e ∙ h)

closer_start : (c : ℕ) → (is_closer c || is_sign_closer c) ≡ true → is_identifier_start c ≡ false
closer_start c h = sym (ascii_start c (let l = closer_low c h in grind (arith, nat_tests))) ∙ plain c h
  where
    plain : (c : ℕ) → (is_closer c || is_sign_closer c) ≡ true → (one_of "$_" c || is_ascii_alphabetic c) ≡ false
    plain c h = grind (arith, nat_tests)

closer_digit : (c : ℕ) → (is_closer c || is_sign_closer c) ≡ true → is_decimal_digit c ≡ false
closer_digit c h = grind (arith, nat_tests)

pub big_number_apart : {w rest : List ℕ} → Word NumericLiteral w → is_open_number NumericLiteral w ≡ false → closes_word rest ≡ true → Apart NumericLiteral w rest
big_number_apart {rest = []} h b k = absurd (false≢true k)
big_number_apart {w} {rest = c ∷ cs} h b k = record {
  utf8 = h.utf8;
  longest = subst (λ x. IsTrue (is_token NumericLiteral (chars w) x)) (sym (chars_front c cs (closer_low c k)))
      (number_longest (chars w) c (chars cs) h.is (ap (λ s. next_numeral s c) (big_ends w (chars w) h.is (encodes-chars w h.utf8) b)) (closer_start c k) (closer_digit c k));
  no_comment = number_no_comment (chars w) (chars (c ∷ cs)) h.is;
  goal = Div;
  allowed = div_allows (chars w) NumericLiteral (inr (inl refl));
  kept = h.kept;
}
