-- Numbers, strings, templates and regular expressions that stand apart from what follows.
use Rattle.std.proofs.Common.{◌≡◌, ℕ, ◌<◌, Bool, true, false, not, ◌&&◌, ◌||◌, List, [], ◌∷◌, ◌++◌, length, refl, sym, ap, ◌∙◌, subst, arith, IsTrue, IsFalse, append-nil, length-append, inl, inr}
use Rattle.std.specs.Prelude.{if◌then◌else◌, unwrap_or}
use Rattle.std.specs.Str.{chars}
use Rattle.std.proofs.lemmas.Bool.Decides.{nat_tests}
use Rattle.std.proofs.lemmas.Bool.{false≢true}
use Rattle.tokens.specs.Alphabet.{one_of, begins_with, is_identifier_start, is_identifier_part, is_decimal_digit, is_hex_digit}
use Rattle.tokens.specs.Numbers.{Numeral, Base, unread, zero_read, integer, leading_point, point, fraction, exponent_mark, exponent_sign, exponent, prefix, digits, integer_separator, fraction_separator, exponent_separator, digits_separator, suffix, no_numeral, binary, octal, hexadecimal, is_digit_of, after_integer, after_zero, next_numeral, numeral_after, is_complete}
use Rattle.tokens.specs.Strings.{closes_string}
use Rattle.tokens.specs.Templates.{closes_template}
use Rattle.tokens.specs.RegularExpressions.{RegularExpression, opened, body, brackets, flags, body_backslash, brackets_backslash, no_expression, next_in_body, next_expression, has_flags, expression_after}
use Rattle.tokens.specs.Comments.{begins_comment}
use Rattle.tokens.specs.declared.token.TokenClass.TheVariants.{NumericLiteral, StringLiteral, Template, RegularExpressionLiteral}
use Rattle.tokens.specs.Lexical.{is_of, none_longer, is_token}
use Rattle.tokens.specs.declared.token.Goal.TheVariants.{Div, TemplateTail}
use Rattle.tokens.specs.declared.token.Goal as goal
use Rattle.tokens.specs.Goals.{allows}
use Rattle.tokens.proofs.Names.{ascii_start}
use Rattle.tokens.proofs.Longest.{none_is_longer}
use Rattle.tokens.proofs.Beginnings.{true_false}
use Rattle.tokens.proofs.Classes.{number_begins, dead_stays}
use Rattle.tokens.proofs.Numerals.{behind_append}
use Rattle.tokens.proofs.StringScans.{closing_found}
use Rattle.tokens.proofs.Parts.{part_once, ends_same}
use Rattle.tokens.proofs.Expressions.{expression_append}
use Rattle.language.proofs.layout.ReadItems.{Apart}
use Rattle.language.proofs.layout.WordsApart.{Word, is_closer, closes, closes_word, chars_front, no_part, div_allows}

-- Numbers

closer_plain : (c : ℕ) → is_closer c ≡ true → c < 128
closer_plain c h = grind (arith, nat_tests)

pick : {X : Type 0} (a : Bool) (x : X) {y : X} → a ≡ false → (if a then x else y) ≡ y
pick true x h = absurd (false≢true (sym h))
pick false x h = refl

-- no number goes on with what may stand behind it
integer_stops : (c : ℕ) → is_closer c ≡ true → after_integer c ≡ no_numeral
integer_stops c h = pick (one_of "." c) _ (a c h) ∙ (pick (one_of "eE" c) _ (b c h) ∙ pick (one_of "n" c) _ (d c h))
  where
    a : (c : ℕ) → is_closer c ≡ true → one_of "." c ≡ false
    a c h = grind (arith, nat_tests)

    b : (c : ℕ) → is_closer c ≡ true → one_of "eE" c ≡ false
    b c h = grind (arith, nat_tests)

    d : (c : ℕ) → is_closer c ≡ true → one_of "n" c ≡ false
    d c h = grind (arith, nat_tests)

no_digit : (c : ℕ) → is_closer c ≡ true → is_decimal_digit c ≡ false
no_digit c h = grind (arith, nat_tests)

no_hex : (c : ℕ) → is_closer c ≡ true → is_hex_digit c ≡ false
no_hex c h = grind (arith, nat_tests)

no_n : (c : ℕ) → is_closer c ≡ true → one_of "n" c ≡ false
no_n c h = grind (arith, nat_tests)

no_digit_of : (b : Base) (c : ℕ) → is_closer c ≡ true → is_digit_of b c ≡ false
no_digit_of binary c h = grind (arith, nat_tests)
no_digit_of octal c h = grind (arith, nat_tests)
no_digit_of hexadecimal c h = no_hex c h

no_separator : (c : ℕ) → is_closer c ≡ true → one_of "_" c ≡ false
no_separator c h = grind (arith, nat_tests)

no_exponent : (c : ℕ) → is_closer c ≡ true → one_of "eE" c ≡ false
no_exponent c h = grind (arith, nat_tests)

nought_stops : (c : ℕ) → is_closer c ≡ true → after_zero c ≡ no_numeral
nought_stops c h = pick (one_of "bB" c) _ (a c h) ∙ (pick (one_of "oO" c) _ (b c h) ∙ (pick (one_of "xX" c) _ (d c h) ∙ integer_stops c h))
  where
    a : (c : ℕ) → is_closer c ≡ true → one_of "bB" c ≡ false
    a c h = grind (arith, nat_tests)

    b : (c : ℕ) → is_closer c ≡ true → one_of "oO" c ≡ false
    b c h = grind (arith, nat_tests)

    d : (c : ℕ) → is_closer c ≡ true → one_of "xX" c ≡ false
    d c h = grind (arith, nat_tests)

number_stops : (s : Numeral) (c : ℕ) → IsTrue (is_complete s) → is_closer c ≡ true → next_numeral s c ≡ no_numeral
number_stops zero_read c k h = nought_stops c h
number_stops integer c k h = pick (is_decimal_digit c) _ (no_digit c h) ∙ (pick (one_of "_" c) _ (no_separator c h) ∙ integer_stops c h)
number_stops point c k h = pick (is_decimal_digit c) _ (no_digit c h) ∙ pick (one_of "eE" c) _ (no_exponent c h)
number_stops fraction c k h = pick (one_of "_" c) _ (no_separator c h) ∙ pick (is_decimal_digit c) _ (no_digit c h) ∙ pick (one_of "eE" c) _ (no_exponent c h)
number_stops exponent c k h = pick (is_decimal_digit c) _ (no_digit c h) ∙ pick (one_of "_" c) _ (no_separator c h)
number_stops (digits b) c k h = pick (is_digit_of b c) _ (no_digit_of b c h) ∙ (pick (one_of "n" c) _ (no_n c h) ∙ pick (one_of "_" c) _ (no_separator c h))
number_stops suffix c k h = refl
number_stops unread c k h = absurd (true_false _ k refl)
number_stops leading_point c k h = absurd (true_false _ k refl)
number_stops exponent_mark c k h = absurd (true_false _ k refl)
number_stops exponent_sign c k h = absurd (true_false _ k refl)
number_stops (prefix b) c k h = absurd (true_false _ k refl)
number_stops integer_separator c k h = absurd (true_false _ k refl)
number_stops fraction_separator c k h = absurd (true_false _ k refl)
number_stops exponent_separator c k h = absurd (true_false _ k refl)
number_stops (digits_separator b) c k h = absurd (true_false _ k refl)
number_stops no_numeral c k h = absurd (true_false _ k refl)

no_start : (c : ℕ) → is_closer c ≡ true → is_identifier_start c ≡ false
no_start c h = sym (ascii_start c (let l = closer_plain c h in grind (arith, nat_tests))) ∙ plain c h
  where
    plain : (c : ℕ) → is_closer c ≡ true → (one_of "$_" c || Rattle.std.specs.Char.is_ascii_alphabetic c) ≡ false
    plain c h = grind (arith, nat_tests)

pub number_longest : (w : List ℕ) (c : ℕ) (cs : List ℕ) → IsTrue (is_of NumericLiteral w) → next_numeral (numeral_after unread w) c ≡ no_numeral → is_identifier_start c ≡ false → is_decimal_digit c ≡ false →
    IsTrue (is_token NumericLiteral w (c ∷ cs))
number_longest w c cs h stops start digit =
    whole (is_of NumericLiteral w) (none_longer NumericLiteral w (c ∷ cs)) (is_identifier_start c) (is_decimal_digit c) h
    (none_is_longer NumericLiteral w (c ∷ cs) (λ d more behind q. (let same : c ≡ d = cc in at_more (is_of NumericLiteral (w ++ d ∷ more)) (subst (λ x. is_of NumericLiteral (w ++ x ∷ more) ≡ false) same (ends more))))) start digit
  where
    ends : (more : List ℕ) → is_complete (numeral_after unread (w ++ c ∷ more)) ≡ false
    ends more = ap is_complete (behind_append unread w (c ∷ more) ∙ ap (λ s. numeral_after s more) stops ∙ dead_stays more)

    whole : (a n s d : Bool) → IsTrue a → IsTrue n → s ≡ false → d ≡ false → IsTrue (((a && true) && n) && not (s || d))
    whole a n s d h k p q = grind (arith, nat_tests)

    at_more : (a : Bool) → a ≡ false → IsFalse (a && true)
    at_more a h = grind (arith, nat_tests)

pub number_no_comment : (w rest : List ℕ) → IsTrue (is_of NumericLiteral w) → IsTrue (not (begins_comment (w ++ rest)))
number_no_comment [] rest h = absurd (true_false _ h refl)
number_no_comment (c ∷ cs) rest h = slash c (begins_with is_decimal_digit cs) (begins_with (one_of "/*") (cs ++ rest)) (number_begins c cs h)
  where
    slash : (c : ℕ) (x b : Bool) → IsTrue (is_decimal_digit c || (one_of "." c && x)) → IsTrue (not (one_of "/" c && b))
    slash c x b h = grind (arith, nat_tests)

pub number_apart : {w rest : List ℕ} → Word NumericLiteral w → closes rest ≡ true → Apart NumericLiteral w rest
number_apart {rest = []} h k = absurd (false≢true k)
number_apart {w} {rest = c ∷ cs} h k = record {
  utf8 = h.utf8;
  longest = subst (λ x. IsTrue (is_token NumericLiteral (chars w) x)) (sym (chars_front c cs (closer_plain c k)))
      (number_longest (chars w) c (chars cs) h.is (number_stops (numeral_after unread (chars w)) c h.is k) (no_start c k) (no_digit c k));
  no_comment = number_no_comment (chars w) (chars (c ∷ cs)) h.is;
  goal = Div;
  allowed = div_allows (chars w) NumericLiteral (inr (inl refl));
  kept = h.kept;
}

-- Strings

no_more_of : (w : List ℕ) (c : ℕ) (more : List ℕ) → w ≡ w ++ c ∷ more → ⊥
no_more_of w c more e = let k = ap length e in let l = length-append w (c ∷ more) in omega (arith, k, l)

string_once : (q : ℕ) (w : List ℕ) (c : ℕ) (more : List ℕ) → IsTrue (closes_string q 0 w) → IsTrue (closes_string q 0 (w ++ c ∷ more)) → ⊥
string_once q w c more h k =
    no_more_of w c more (ap (λ o. unwrap_or o []) (sym (closing_found q 0 w (c ∷ more) h) ∙ ap (Rattle.tokens.proofs.StringScans.closing q 0) (sym (append-nil (w ++ c ∷ more))) ∙ closing_found q 0 (w ++ c ∷ more) [] k))

string_longest : (w rest : List ℕ) → IsTrue (is_of StringLiteral w) → IsTrue (is_token StringLiteral w rest)
string_longest [] rest h = absurd (true_false _ h refl)
string_longest (q ∷ w) rest h =
    whole (is_of StringLiteral (q ∷ w)) (none_longer StringLiteral (q ∷ w) rest) h (none_is_longer StringLiteral (q ∷ w) rest (λ c more behind e. none c more (closes_string q 0 (w ++ c ∷ more)) (λ k. string_once q w c more (second (one_of "'\"" q) (closes_string q 0 w) h) k)))
  where
    whole : (a n : Bool) → IsTrue a → IsTrue n → IsTrue (((a && true) && n) && true)
    whole a n h k = grind (arith, nat_tests)

    second : (a b : Bool) → IsTrue (a && b) → IsTrue b
    second a b h = grind (arith, nat_tests)

    none : (c : ℕ) (more : List ℕ) (b : Bool) → (IsTrue b → ⊥) → IsFalse ((one_of "'\"" q && b) && true)
    none c more true f = absurd (f refl)
    none c more false f = go (one_of "'\"" q)
      where
        go : (a : Bool) → IsFalse ((a && false) && true)
        go true = refl
        go false = refl

string_no_comment : (w rest : List ℕ) → IsTrue (is_of StringLiteral w) → IsTrue (not (begins_comment (w ++ rest)))
string_no_comment [] rest h = absurd (true_false _ h refl)
string_no_comment (c ∷ cs) rest h = slash c (closes_string c 0 cs) (begins_with (one_of "/*") (cs ++ rest)) h
  where
    slash : (c : ℕ) (x b : Bool) → IsTrue (one_of "'\"" c && x) → IsTrue (not (one_of "/" c && b))
    slash c x b h = grind (arith, nat_tests)

pub string_apart : {w : List ℕ} (rest : List ℕ) → Word StringLiteral w → Apart StringLiteral w rest
string_apart {w} rest h = record {
  utf8 = h.utf8;
  longest = string_longest (chars w) (chars rest) h.is;
  no_comment = string_no_comment (chars w) (chars rest) h.is;
  goal = Div;
  allowed = div_allows (chars w) StringLiteral (inr (inr (inl refl)));
  kept = h.kept;
}

-- Parts of templates

template_longest : (w rest : List ℕ) → IsTrue (is_of Template w) → IsTrue (is_token Template w rest)
template_longest [] rest h = absurd (true_false _ h refl)
template_longest (q ∷ w) rest h =
    whole (is_of Template (q ∷ w)) (none_longer Template (q ∷ w) rest) h
    (none_is_longer Template (q ∷ w) rest (λ c more behind e. none (closes_template false (w ++ c ∷ more)) (λ k. never c more (part_once false false w (c ∷ more) (ends_same w ∙ second (one_of "`}" q) (closes_template false w) h) (ends_same (w ++ c ∷ more) ∙ k)))))
  where
    whole : (a n : Bool) → IsTrue a → IsTrue n → IsTrue (((a && true) && n) && true)
    whole a n h k = grind (arith, nat_tests)

    second : (a b : Bool) → IsTrue (a && b) → IsTrue b
    second a b h = grind (arith, nat_tests)

    never : (c : ℕ) (more : List ℕ) → c ∷ more ≡ [] → ⊥
    never c more e = let k = ap length e in omega (arith, k)

    none : (b : Bool) → (IsTrue b → ⊥) → IsFalse ((one_of "`}" q && b) && true)
    none true f = absurd (f refl)
    none false f = go (one_of "`}" q)
      where
        go : (a : Bool) → IsFalse ((a && false) && true)
        go true = refl
        go false = refl

template_no_comment : (w rest : List ℕ) → IsTrue (is_of Template w) → IsTrue (not (begins_comment (w ++ rest)))
template_no_comment [] rest h = absurd (true_false _ h refl)
template_no_comment (c ∷ cs) rest h = slash c (closes_template false cs) (begins_with (one_of "/*") (cs ++ rest)) h
  where
    slash : (c : ℕ) (x b : Bool) → IsTrue (one_of "`}" c && x) → IsTrue (not (one_of "/" c && b))
    slash c x b h = grind (arith, nat_tests)

every : (a b : Bool) → IsTrue (if a then true else if b then true else true)
every true b = refl
every false true = refl
every false false = refl

template_allowed : (w : List ℕ) → IsTrue (allows TemplateTail Template w)
template_allowed w = every (begins_with (one_of "/") w) (begins_with (one_of "}") w)

pub template_apart : {w : List ℕ} (rest : List ℕ) → Word Template w → Apart Template w rest
template_apart {w} rest h = record {
  utf8 = h.utf8;
  longest = template_longest (chars w) (chars rest) h.is;
  no_comment = template_no_comment (chars w) (chars rest) h.is;
  goal = TemplateTail;
  allowed = template_allowed (chars w);
  kept = h.kept;
}

-- Regular expressions

over_stays : (w : List ℕ) → expression_after no_expression w ≡ no_expression
over_stays [] = refl
over_stays (c ∷ w) = over_stays w

flags_is : (s : RegularExpression) → IsTrue (has_flags s) → s ≡ flags
flags_is flags h = refl
flags_is no_expression h = absurd (true_false _ h refl)
flags_is opened h = absurd (true_false _ h refl)
flags_is body h = absurd (true_false _ h refl)
flags_is brackets h = absurd (true_false _ h refl)
flags_is body_backslash h = absurd (true_false _ h refl)
flags_is brackets_backslash h = absurd (true_false _ h refl)

regexp_longest : (w rest : List ℕ) → IsTrue (is_of RegularExpressionLiteral w) → IsFalse (begins_with is_identifier_part rest) → IsTrue (is_token RegularExpressionLiteral w rest)
regexp_longest [] rest h e = absurd (true_false _ h refl)
regexp_longest (q ∷ w) rest h e =
    whole (is_of RegularExpressionLiteral (q ∷ w)) (none_longer RegularExpressionLiteral (q ∷ w) rest) h
    (none_is_longer RegularExpressionLiteral (q ∷ w) rest (λ c more behind z. none (has_flags (expression_after opened (w ++ c ∷ more))) (ends c more (subst (λ x. IsFalse (begins_with is_identifier_part x)) z e))))
  where
    second : (a b : Bool) → IsTrue (a && b) → IsTrue b
    second a b h = grind (arith, nat_tests)

    ends : (c : ℕ) (more : List ℕ) → IsFalse (is_identifier_part c) → has_flags (expression_after opened (w ++ c ∷ more)) ≡ false
    ends c more n =
        ap has_flags (expression_append opened w (c ∷ more) ∙ ap (λ s. expression_after (next_expression s c) more) (flags_is _ (second (one_of "/" q) (has_flags (expression_after opened w)) h)) ∙
        ap (λ s. expression_after s more) (pick (is_identifier_part c) _ n) ∙ over_stays more)

    whole : (a n : Bool) → IsTrue a → IsTrue n → IsTrue (((a && true) && n) && true)
    whole a n h k = grind (arith, nat_tests)

    none : (b : Bool) → b ≡ false → IsFalse ((one_of "/" q && b) && true)
    none true f = absurd (false≢true (sym f))
    none false f = go (one_of "/" q)
      where
        go : (a : Bool) → IsFalse ((a && false) && true)
        go true = refl
        go false = refl

regexp_no_comment : (w rest : List ℕ) → IsTrue (is_of RegularExpressionLiteral w) → IsTrue (not (begins_comment (w ++ rest)))
regexp_no_comment [] rest h = absurd (true_false _ h refl)
regexp_no_comment (q ∷ []) rest h = absurd (none (one_of "/" q) h)
  where
    none : (a : Bool) → IsTrue (a && false) → ⊥
    none true h = false≢true h
    none false h = false≢true h
regexp_no_comment (q ∷ c ∷ cs) rest h = go (one_of "/" q) (one_of "*/" c) refl h
  where
    same : (c : ℕ) → one_of "*/" c ≡ false → one_of "/*" c ≡ false
    same c h = grind (arith, nat_tests)

    go : (a b : Bool) → one_of "*/" c ≡ b → IsTrue (a && has_flags (expression_after (if b then no_expression else next_in_body c) cs)) → IsTrue (not (a && one_of "/*" c))
    go false b e h = refl
    go true true e h = absurd (false≢true (sym (ap has_flags (over_stays cs)) ∙ h))
    go true false e h = ap not (same c e)

regexp_allowed : (w : List ℕ) → IsTrue (allows goal.TheVariants.RegExp RegularExpressionLiteral w)
regexp_allowed w = every (begins_with (one_of "/") w) (begins_with (one_of "}") w)

pub regexp_apart : {w rest : List ℕ} → Word RegularExpressionLiteral w → closes_word rest ≡ true → Apart RegularExpressionLiteral w rest
regexp_apart {w} {rest} h k = record {
  utf8 = h.utf8;
  longest = regexp_longest (chars w) (chars rest) h.is (no_part rest k);
  no_comment = regexp_no_comment (chars w) (chars rest) h.is;
  goal = goal.TheVariants.RegExp;
  allowed = regexp_allowed (chars w);
  kept = h.kept;
}
