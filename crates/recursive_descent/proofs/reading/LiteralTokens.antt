-- The class of a string, a number or a regular expression is told by its text (ECMA-262 11.8).
use Rattle.std.proofs.Common.{◌≡◌, ℕ, ◌<◌, Bool, true, false, cond, List, [], ◌∷◌, refl, sym, ap, ◌∙◌, arith}
use Rattle.std.specs.Prelude.{IsTrue, nat_eq, nat_le, encode_utf8_all, ◌&&◌, ◌||◌}
use Rattle.std.proofs.lemmas.Bool.Decides.{nat_tests}
use Rattle.std.proofs.lemmas.Str.{byte_from_char}
use Rattle.std.proofs.lemmas.Bool.{false≢true}
use Rattle.tokens.specs.declared.token.TokenClass.{TokenClass}
use Rattle.tokens.specs.declared.token.TokenClass.TheVariants.{IdentifierName, Punctuator, NumericLiteral, StringLiteral, Template, RegularExpressionLiteral, PrivateName, Keyword, End}
use Rattle.tokens.specs.Alphabet.{one_of, begins_with, is_decimal_digit}
use Rattle.tokens.specs.Strings.{closes_string}
use Rattle.tokens.specs.RegularExpressions.{has_flags, expression_after, opened}
use Rattle.tokens.specs.Lexical.{is_of}
use Rattle.tokens.specs.Reading.{behind, any_goal}
use Rattle.tokens.proofs.Classes.{token_is, number_begins}
use Rattle.language.specs.Vocabulary.{literal_class}
use Rattle.language.specs.Token.{Token, table_text}
use Rattle.language.specs.Places.{NextIn, next_in}
use Rattle.language.specs.Languages.{seen_next}
use Rattle.token_cursor.proofs.SeenTokens.{class_same}
use Rattle.recursive_descent.proofs.reading.SeenClasses.{is_steady, same_class_in}
use Rattle.token_cursor.specs.SourceText.{SourceText, SeenNext}

-- the classes of literals but templates
abbrev pub is_literal_class : TokenClass → Bool
is_literal_class StringLiteral = true
is_literal_class NumericLiteral = true
is_literal_class RegularExpressionLiteral = true
is_literal_class _ = false

-- by the first character
abbrev of_first : ℕ → TokenClass
of_first c = cond (nat_eq c 34 || nat_eq c 39) StringLiteral (cond (nat_eq c 47) RegularExpressionLiteral (cond (nat_eq c 46 || (nat_le 48 c && nat_le c 57)) NumericLiteral IdentifierName))

first_byte : (c : ℕ) (cs : List ℕ) → c < 128 → literal_class (encode_utf8_all (c ∷ cs)) ≡ of_first c
first_byte c cs low = ap of_first (byte_from_char (encode_utf8_all (c ∷ cs)) (encode_utf8_all cs) c refl low)

both_true : (a b : Bool) → IsTrue (a && b) → IsTrue a
both_true a b h = grind (arith, nat_tests)

tests : (a b d : Bool) (k : TokenClass) → a ≡ false → b ≡ false → d ≡ true → cond a StringLiteral (cond b RegularExpressionLiteral (cond d NumericLiteral IdentifierName)) ≡ NumericLiteral
tests false false true k p q r = refl
tests true b d k p q r = cc
tests false true d k p q r = cc
tests false false false k p q r = cc

quote_low : (c : ℕ) → IsTrue (one_of "'\"" c) → c < 128
quote_low c h = grind (arith, nat_tests)

quote_first : (c : ℕ) → IsTrue (one_of "'\"" c) → (nat_eq c 34 || nat_eq c 39) ≡ true
quote_first c h = grind (arith, nat_tests)

digit_low : (c : ℕ) (x : Bool) → IsTrue (is_decimal_digit c || (one_of "." c && x)) → c < 128
digit_low c x h = grind (arith, nat_tests)

digit_no_quote : (c : ℕ) (x : Bool) → IsTrue (is_decimal_digit c || (one_of "." c && x)) → (nat_eq c 34 || nat_eq c 39) ≡ false
digit_no_quote c x h = grind (arith, nat_tests)

digit_no_slash : (c : ℕ) (x : Bool) → IsTrue (is_decimal_digit c || (one_of "." c && x)) → nat_eq c 47 ≡ false
digit_no_slash c x h = grind (arith, nat_tests)

digit_first : (c : ℕ) (x : Bool) → IsTrue (is_decimal_digit c || (one_of "." c && x)) → (nat_eq c 46 || (nat_le 48 c && nat_le c 57)) ≡ true
digit_first c x h = grind (arith, nat_tests)

slash_low : (c : ℕ) → IsTrue (one_of "/" c) → c < 128
slash_low c h = grind (arith, nat_tests)

slash_no_quote : (c : ℕ) → IsTrue (one_of "/" c) → (nat_eq c 34 || nat_eq c 39) ≡ false
slash_no_quote c h = grind (arith, nat_tests)

slash_first : (c : ℕ) → IsTrue (one_of "/" c) → nat_eq c 47 ≡ true
slash_first c h = grind (arith, nat_tests)

-- the text of a literal has its class
literal_word : (c : TokenClass) (w : List ℕ) → is_literal_class c ≡ true → IsTrue (is_of c w) → literal_class (encode_utf8_all w) ≡ c
literal_word StringLiteral [] k h = cc
literal_word StringLiteral (c ∷ cs) k h =
    let q = both_true (one_of "'\"" c) (closes_string c 0 cs) h in
    first_byte c cs (quote_low c q) ∙ ap (λ b. cond b StringLiteral (cond (nat_eq c 47) RegularExpressionLiteral (cond (nat_eq c 46 || (nat_le 48 c && nat_le c 57)) NumericLiteral IdentifierName))) (quote_first c q)
literal_word NumericLiteral [] k h = cc
literal_word NumericLiteral (c ∷ cs) k h =
    let x = begins_with is_decimal_digit cs in
    let d = number_begins c cs h in
    first_byte c cs (digit_low c x d) ∙ tests (nat_eq c 34 || nat_eq c 39) (nat_eq c 47) (nat_eq c 46 || (nat_le 48 c && nat_le c 57)) NumericLiteral (digit_no_quote c x d) (digit_no_slash c x d) (digit_first c x d)
literal_word RegularExpressionLiteral [] k h = cc
literal_word RegularExpressionLiteral (c ∷ cs) k h =
    let q = both_true (one_of "/" c) (has_flags (expression_after opened cs)) h in
    first_byte c cs (slash_low c q) ∙ (λ i. cond (slash_no_quote c q i) StringLiteral (cond (slash_first c q i) RegularExpressionLiteral (cond (nat_eq c 46 || (nat_le 48 c && nat_le c 57)) NumericLiteral IdentifierName)))
literal_word IdentifierName w k h = cc
literal_word PrivateName w k h = cc
literal_word Keyword w k h = cc
literal_word Punctuator w k h = cc
literal_word Template w k h = cc
literal_word End w k h = cc

literal_text : (c : TokenClass) (w : List ℕ) → is_literal_class c ≡ true → table_text c w ≡ w
literal_text StringLiteral w h = refl
literal_text NumericLiteral w h = refl
literal_text RegularExpressionLiteral w h = refl
literal_text PrivateName w h = absurd (false≢true h)
literal_text Keyword w h = absurd (false≢true h)
literal_text IdentifierName w h = absurd (false≢true h)
literal_text Punctuator w h = absurd (false≢true h)
literal_text Template w h = absurd (false≢true h)
literal_text End w h = absurd (false≢true h)

literal_steady : (c : TokenClass) → is_literal_class c ≡ true → is_steady c ≡ true
literal_steady IdentifierName h = absurd (false≢true h)
literal_steady Keyword h = absurd (false≢true h)
literal_steady c h = refl

-- so a token of such a class is told by its text
pub literal_read : {text : SourceText} {s t e : Token} → SeenNext text s t e → is_literal_class t.class ≡ true → literal_class t.text ≡ t.class
literal_read {text} (seen_next {t = v} x) h = let kept : is_literal_class v.class ≡ true = sym (class_same is_literal_class refl text.language v.class v.text) ∙ h in by x kept ∙ sym (same_class_in text.language v.class v.text (literal_steady v.class kept))
  where
    by : {s v e : Token} → NextIn text.bytes any_goal s v e → is_literal_class v.class ≡ true → literal_class v.text ≡ v.class
    by (next_in {t = u} goal any x) h = ap literal_class (literal_text u.class u.text h ∙ x.text) ∙ literal_word u.class x.word h (token_is u.class x.word (behind text.bytes u.stop) x.longest)
