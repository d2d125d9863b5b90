-- The earlier numbers and punctuators are those of the 11th edition, written out once more.
use Rattle.std.proofs.Common.{◌≡◌, ℕ, Bool, true, false, not, ◌&&◌, ◌||◌, List, [], ◌∷◌, IsTrue, IsFalse, refl, sym, ap, ◌∙◌, arith, if◌then◌else◌}
use Prim.Native.String.{String}
use Rattle.std.specs.List.{list_any}
use Rattle.std.proofs.lemmas.Bool.Decides.{nat_tests}
use Rattle.tokens.specs.Alphabet.{one_of, is_decimal_digit}
use Rattle.tokens.specs.Numbers.{binary, octal, hexadecimal, Numeral, unread, zero_read, integer, leading_point, point, fraction, exponent_mark, exponent_sign, exponent, prefix, digits, integer_separator, fraction_separator, exponent_separator, digits_separator, suffix, no_numeral, is_digit_of, after_integer, after_fraction, next_numeral, numeral_after, is_complete}
use Rattle.tokens.specs.Lexical.{NumericLiteral, Punctuator, is_of, is_one_of_words, is_punctuator, punctuators}
use Rattle.tokens.specs.Earlier.{is_new, new_punctuators}
use Rattle.tokens.proofs.Beginnings.{true_false}
use Rattle.tokens.proofs.Classes.{words_all}

-- numbers (11.8.3 of the 11th edition): as today, but from a digit nothing goes on with a separator
abbrev old_next : Numeral → ℕ → Numeral
old_next integer c = if is_decimal_digit c then integer else after_integer c
old_next fraction c = after_fraction c
old_next exponent c = if is_decimal_digit c then exponent else no_numeral
old_next (digits base) c = if is_digit_of base c then digits base else if one_of "n" c then suffix else no_numeral
old_next s c = next_numeral s c

abbrev old_behind : Numeral → List ℕ → Numeral
old_behind s [] = s
old_behind s (c ∷ cs) = old_behind (old_next s c) cs

abbrev old_number : List ℕ → Bool
old_number text = is_complete (old_behind unread text)

same_next : (s : Numeral) (c : ℕ) → one_of "_" c ≡ false → old_next s c ≡ next_numeral s c
same_next integer c h = sym (ap (λ u. if is_decimal_digit c then integer else if u then integer_separator else after_integer c) h)
same_next fraction c h = sym (ap (λ u. if u then fraction_separator else after_fraction c) h)
same_next exponent c h = sym (ap (λ u. if is_decimal_digit c then exponent else if u then exponent_separator else no_numeral) h)
same_next (digits base) c h = sym (ap (λ u. if is_digit_of base c then digits base else if one_of "n" c then suffix else if u then digits_separator base else no_numeral) h)
same_next unread c h = refl
same_next zero_read c h = refl
same_next leading_point c h = refl
same_next point c h = refl
same_next exponent_mark c h = refl
same_next exponent_sign c h = refl
same_next (prefix base) c h = refl
same_next integer_separator c h = refl
same_next fraction_separator c h = refl
same_next exponent_separator c h = refl
same_next (digits_separator base) c h = refl
same_next suffix c h = refl
same_next no_numeral c h = refl

old_stops : (s : Numeral) → old_next s 95 ≡ no_numeral
old_stops integer = refl
old_stops fraction = refl
old_stops exponent = refl
old_stops (digits binary) = refl
old_stops (digits octal) = refl
old_stops (digits hexadecimal) = refl
old_stops unread = refl
old_stops zero_read = refl
old_stops leading_point = refl
old_stops point = refl
old_stops exponent_mark = refl
old_stops exponent_sign = refl
old_stops (prefix binary) = refl
old_stops (prefix octal) = refl
old_stops (prefix hexadecimal) = refl
old_stops integer_separator = refl
old_stops fraction_separator = refl
old_stops exponent_separator = refl
old_stops (digits_separator binary) = refl
old_stops (digits_separator octal) = refl
old_stops (digits_separator hexadecimal) = refl
old_stops suffix = refl
old_stops no_numeral = refl

old_dead : (w : List ℕ) → old_behind no_numeral w ≡ no_numeral
old_dead [] = refl
old_dead (c ∷ w) = old_dead w

numbers_from : (s : Numeral) (w : List ℕ) → is_complete (old_behind s w) ≡ (is_complete (numeral_after s w) && not (list_any (one_of "_") w))
numbers_from s [] = whole (is_complete s)
  where
    whole : (a : Bool) → a ≡ (a && true)
    whole true = refl
    whole false = refl
numbers_from s (c ∷ w) = by_separator (one_of "_" c) refl (numbers_from (next_numeral s c) w)
  where
    separator : (c : ℕ) → one_of "_" c ≡ true → c ≡ 95
    separator c h = grind (arith, nat_tests)

    none : (a : Bool) → false ≡ (a && false)
    none true = refl
    none false = refl

    by_separator : (u : Bool) → one_of "_" c ≡ u → is_complete (old_behind (next_numeral s c) w) ≡ (is_complete (numeral_after (next_numeral s c) w) && not (list_any (one_of "_") w)) →
        is_complete (old_behind (old_next s c) w) ≡ (is_complete (numeral_after (next_numeral s c) w) && not (one_of "_" c || list_any (one_of "_") w))
    by_separator true e h =
        ap (λ x. is_complete (old_behind x w)) (ap (old_next s) (separator c e) ∙ old_stops s) ∙ ap is_complete (old_dead w) ∙ none (is_complete (numeral_after (next_numeral s c) w))
        ∙ ap (λ u. is_complete (numeral_after (next_numeral s c) w) && not (u || list_any (one_of "_") w)) (sym e)
    by_separator false e h =
        ap (λ x. is_complete (old_behind x w)) (same_next s c e) ∙ h
        ∙ ap (λ u. is_complete (numeral_after (next_numeral s c) w) && not (u || list_any (one_of "_") w)) (sym e)

pub earlier_numbers : (w : List ℕ) → old_number w ≡ (is_of NumericLiteral w && not (is_new NumericLiteral w))
earlier_numbers w = numbers_from unread w

-- punctuators (11.7 of the 11th edition)
abbrev old_punctuators : List String
old_punctuators = "{" ∷ "(" ∷ ")" ∷ "[" ∷ "]" ∷ "." ∷ "..." ∷ ";" ∷ "," ∷ "<" ∷ ">" ∷ "<=" ∷ ">=" ∷ "==" ∷ "!=" ∷ "===" ∷ "!==" ∷ "+" ∷ "-" ∷ "*" ∷ "%" ∷ "**" ∷ "++" ∷ "--" ∷ "<<" ∷ ">>" ∷ ">>>" ∷ "&" ∷ "|" ∷ "^" ∷ "!" ∷ "~" ∷ "&&" ∷ "||" ∷ "??"
    ∷ "?" ∷ "?." ∷ ":" ∷ "=" ∷ "+=" ∷ "-=" ∷ "*=" ∷ "%=" ∷ "**=" ∷ "<<=" ∷ ">>=" ∷ ">>>=" ∷ "&=" ∷ "|=" ∷ "^=" ∷ "=>" ∷ "/" ∷ "/=" ∷ "}" ∷ []

same_tests : (a b : Bool) → (IsTrue a → IsTrue b) → (IsTrue b → IsTrue a) → a ≡ b
same_tests true true f g = refl
same_tests true false f g = absurd (true_false _ (f refl) refl)
same_tests false true f g = absurd (true_false _ (g refl) refl)
same_tests false false f g = refl

pub earlier_punctuators : (w : List ℕ) → is_one_of_words old_punctuators w ≡ (is_of Punctuator w && not (is_new Punctuator w))
earlier_punctuators w =
    same_tests _ _ (λ h. words_all old_punctuators (λ v. is_punctuator v && not (is_one_of_words new_punctuators v)) w refl h)
    (λ h. let p = split (is_punctuator w) (is_one_of_words new_punctuators w) h in
    other (is_one_of_words old_punctuators w) (is_one_of_words new_punctuators w) (words_all punctuators (λ v. is_one_of_words old_punctuators v || is_one_of_words new_punctuators v) w refl p.0) p.1)
  where
    split : (a b : Bool) → IsTrue (a && not b) → IsTrue a × IsFalse b
    split true false h = (refl, refl)
    split true true h = absurd (true_false _ h refl)
    split false b h = absurd (true_false _ h refl)

    other : (a b : Bool) → IsTrue (a || b) → IsFalse b → IsTrue a
    other true b h k = refl
    other false b h k = absurd (true_false _ h k)
