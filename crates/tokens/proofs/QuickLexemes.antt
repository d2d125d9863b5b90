-- Tokens that are seen at once: names of ASCII, and punctuators of one character.
use Rattle.std.proofs.Common.{◌≡◌, ℕ, ◌<◌, Bool, true, false, ◌&&◌, ◌||◌, get_or, List, [], ◌∷◌, if◌then◌else◌, codes, IsTrue, IsFalse, refl, sym, ap, ◌∙◌, subst, arith}
use Rattle.std.specs.Char.{is_ascii, is_ascii_alphabetic}
use Rattle.std.specs.Str.{IsUtf8}
use Rattle.std.proofs.lemmas.Bool.{eqb-true}
use Rattle.std.proofs.lemmas.Bool.Decides.{nat_tests}
use Rattle.tokens.specs.Alphabet.{one_of, is_among, begins_with, is_identifier_start, is_identifier_part, is_decimal_digit}
use Rattle.tokens.specs.Comments.{begins_comment}
use Rattle.tokens.specs.Lexical.{LexicalClass, IdentifierName, NumericLiteral, Punctuator, Template}
use Rattle.tokens.specs.Goals.{Goal, reads_template_parts}
use Rattle.tokens.specs.PunctuatorSets.{alone, is_single, goes_on}
use Rattle.tokens.specs.TokenStarts.{class_of, is_mark, is_operator, begins_so, start_at}
use Rattle.tokens.specs.Reading.{behind}
use Rattle.tokens.specs.Scanned.{Passed, IsRun, IsWordAt, IsLexemeAt}
use Rattle.tokens.specs.declared.scanner.TheConstants.{STARTS}
use Rattle.tokens.proofs.Classes.{is_special, start_plain, name_class, mark_class}
use Rattle.tokens.proofs.Names.{ascii_start, name_word}
use Rattle.tokens.proofs.Punctuators.{first_look, found_alone, found_plain}
use Rattle.tokens.proofs.TokenUniqueness.{from_range, from_list}

pub start_rows : (c : ℕ) → c < 128 → IsTrue (begins_so (start_at (get_or STARTS c 0)) c)
start_rows c lt = from_range (λ x. begins_so (start_at (get_or STARTS x 0)) x) 0 128 c refl (omega arith) (omega arith)

pub name_start : (c : ℕ) → c < 128 → IsTrue (one_of "$_" c || is_ascii_alphabetic c) → IsTrue (is_identifier_start c)
name_start c lt h = sym (ascii_start c (small c lt)) ∙ h where
  small : (c : ℕ) → c < 128 → is_ascii c ≡ true
  small c lt = grind (arith, nat_tests)

-- where no `/` stands no comment begins
no_comment_at : (text : List ℕ) (at stop c : ℕ) → Passed text at stop (c ∷ []) → one_of "/" c ≡ false → begins_comment (behind text at) ≡ false
no_comment_at text at stop c p e = ap begins_comment p.split ∙ ap (λ x. x && begins_with (one_of "/*") (behind text stop)) e

lexeme : (goal : Goal) (text : List ℕ) (at start stop c : ℕ) (class : LexicalClass) → Passed text at start (c ∷ []) → one_of "/" c ≡ false → class ≡ class_of goal (c ∷ behind text start) →
    IsWordAt class text at stop → IsLexemeAt goal text at class stop
lexeme goal text at start stop c class p e k w =
    record { read = k ∙ sym (ap (class_of goal) p.split); word = w; no_comment = no_comment_at text at start c p e }

pub name_lexeme : (goal : Goal) (text : List ℕ) (at start stop c : ℕ) → Passed text at start (c ∷ []) → IsTrue (is_identifier_start c) → IsRun is_identifier_part text start stop →
    IsLexemeAt goal text at IdentifierName stop
name_lexeme goal text at start stop c p s r =
    lexeme goal text at start stop c IdentifierName p (no_slash c (start_plain c s)) (name_class goal c (behind text start) s) (name_word text at start stop c p s r) where
      no_slash : (c : ℕ) → IsFalse (is_special c) → one_of "/" c ≡ false
      no_slash c h = grind (arith, nat_tests)

pub mark_lexeme : (goal : Goal) (text : List ℕ) (at stop c : ℕ) → IsUtf8 text → Passed text at stop (c ∷ []) → IsTrue (one_of "{()[];,:~" c) → IsLexemeAt goal text at Punctuator stop
mark_lexeme goal text at stop c u p h =
    lexeme goal text at stop stop c Punctuator p (no_slash c h) (mark_class goal c (behind text stop) (from_list is_mark (codes "{()[];,:~") c refl h))
    (found_alone text at c stop u (first_look text at stop c p) (from_list (λ x. is_among x alone) (codes "{()[];,:~") c refl h)) where
      no_slash : (c : ℕ) → IsTrue (one_of "{()[];,:~" c) → one_of "/" c ≡ false
      no_slash c h = grind (arith, nat_tests)

pub brace_lexeme : (goal : Goal) (text : List ℕ) (at stop c : ℕ) → IsUtf8 text → Passed text at stop (c ∷ []) → IsTrue (one_of "}" c) → reads_template_parts goal ≡ false →
    IsLexemeAt goal text at Punctuator stop
brace_lexeme goal text at stop c u p h n = at_brace c (eqb-true c 125 h) p where
  at_brace : (c : ℕ) → c ≡ 125 → Passed text at stop (c ∷ []) → IsLexemeAt goal text at Punctuator stop
  at_brace c e p =
      let q : Passed text at stop (125 ∷ []) = subst (λ x. Passed text at stop (x ∷ [])) e p in
      lexeme goal text at stop stop 125 Punctuator q refl (ap (λ b. if b then Template else Punctuator) (sym n)) (found_alone text at 125 stop u (first_look text at stop 125 q) refl)

-- an operator before a character with which no longer one goes on
operator_class : (goal : Goal) (c d : ℕ) (cs : List ℕ) → IsTrue (is_operator c) → goes_on d ≡ false → Punctuator ≡ class_of goal (c ∷ d ∷ cs)
operator_class goal c d cs h g = by_point (one_of "." c) refl h where
  no_digit : (x y : Bool) → (x || y) ≡ false → x ≡ false
  no_digit x y h = grind (arith, nat_tests)

  by_point : (t : Bool) → one_of "." c ≡ t → IsTrue (t || one_of "<>=!+-*%&|^?" c) → Punctuator ≡ class_of goal (c ∷ d ∷ cs)
  by_point true e h =
      subst (λ x. Punctuator ≡ class_of goal (x ∷ d ∷ cs)) (sym (eqb-true c 46 e))
      (ap (λ b. if b then NumericLiteral else Punctuator) (sym (no_digit (is_decimal_digit d) (one_of "=>.+-*<&|?" d) g)))
  by_point false e h = mark_class goal c (d ∷ cs) (from_list is_mark (codes "<>=!+-*%&|^?") c refl h)

pub operator_lexeme : (goal : Goal) (text : List ℕ) (at stop more c d : ℕ) → IsUtf8 text → Passed text at stop (c ∷ []) → Passed text stop more (d ∷ []) → IsTrue (is_operator c) → goes_on d ≡ false →
    IsLexemeAt goal text at Punctuator stop
operator_lexeme goal text at stop more c d u p q h g =
    lexeme goal text at stop stop c Punctuator p (no_slash c h) (operator_class goal c d (behind text more) h g ∙ ap (λ x. class_of goal (c ∷ x)) (sym q.split))
    (found_plain text at c d stop more u (first_look text at stop c p) (first_look text stop more d q) (single c h) g) where
      no_slash : (c : ℕ) → IsTrue (is_operator c) → one_of "/" c ≡ false
      no_slash c h = grind (arith, nat_tests)

      single : (c : ℕ) → IsTrue (is_operator c) → is_single c ≡ true
      single c h = from_list is_single (codes ".<>=!+-*%&|^?") c refl h
