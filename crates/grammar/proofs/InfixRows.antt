-- What a text makes behind an expression, by its length, its first byte, and its class.
use Rattle.std.proofs.Common.{◌≡◌, ℕ, Bool, true, false, cond, List, [], ◌∷◌, length, refl, sym, ap, ◌∙◌, arith}
use Rattle.std.specs.Prelude.{not, Some, None, nat_eq, slice_index_or, filter, codes}
use Rattle.std.proofs.lemmas.Bool.{false≢true, and_right, and_from}
use Rattle.std.proofs.lemmas.Bool.Decides.{nat_tests}
use Prim.Native.String.{String}
use Rattle.tokens.specs.declared.token.TokenClass.TheVariants.{IdentifierName, Punctuator}
use Rattle.language.specs.declared.Rank.TheVariants.{Relational, Shift}
use Rattle.language.specs.Vocabulary.{among, is_word_operator, Operator, op_binary, op_none, operators, operator_among, operator_of}
use Rattle.language.specs.Continuations.{of_class}
use Rattle.language.proofs.table.Begins.{among_by}
use Rattle.grammar.specs.OperatorRows.{only_texts, begins_with}
use Rattle.grammar.specs.Infix.{coded_operator, is_short, is_long, short_operators, long_operators, word_operators}
use Rattle.grammar.specs.declared.infix.InfixOperator.{InfixOperator as Coded}
use Rattle.grammar.proofs.Firsts.{among_only, among_none, OneByte, NoByte, begins, begins_else, begins_other, none_among}

operator_only : (p : List ℕ → Bool) (w : List ℕ) (rows : List (List String × Operator)) → p w ≡ true → operator_among w rows ≡ operator_among w (only_texts p rows)
operator_only p w [] h = refl
operator_only p w (row ∷ rows) h = ap (λ b. cond b row.1 (operator_among w rows)) (among_only p w row.0 h) ∙ ap (cond (among w (filter (λ s. p (codes s)) row.0)) row.1) (operator_only p w rows h)

operator_none : (p : List ℕ → Bool) (w : List ℕ) (rows : List (List String × Operator)) → p w ≡ false → operator_among w (only_texts p rows) ≡ op_none
operator_none p w [] h = refl
operator_none p w (row ∷ rows) h = ap (λ b. cond b row.1 (operator_among w (only_texts p rows))) (among_none p w row.0 h) ∙ operator_none p w rows h

name_made : (w : List ℕ) → of_class IdentifierName w ≡ operator_among w word_operators
name_made w = of (is_word_operator w) refl
  where
    of : (b : Bool) → is_word_operator w ≡ b → of_class IdentifierName w ≡ operator_among w word_operators
    of true e = ap (λ b. cond b (operator_of w) op_none) e ∙ operator_only is_word_operator w operators e
    of false e = ap (λ b. cond b (operator_of w) op_none) e ∙ sym (operator_none is_word_operator w operators e)

equal_is : (n : ℕ) → n ≡ 1 → nat_eq n 1 ≡ true
equal_is n h = grind (arith, nat_tests)

other_isnt : (n : ℕ) → (n ≡ 1 → ⊥) → nat_eq n 1 ≡ false
other_isnt n h = grind (arith, nat_tests)

pub short_made : (w : List ℕ) → length w ≡ 1 → of_class Punctuator w ≡ operator_among w short_operators
short_made w one = of (is_word_operator w) refl
  where
    long : is_word_operator w ≡ true → is_short w ≡ false
    long e = among_by (λ v. is_short v ≡ false) w ("delete" ∷ "void" ∷ "typeof" ∷ "in" ∷ "instanceof" ∷ []) e (refl, (refl, (refl, (refl, (refl, tt)))))

    of : (b : Bool) → is_word_operator w ≡ b → of_class Punctuator w ≡ operator_among w short_operators
    of true e = absurd (false≢true (sym (long e) ∙ equal_is (length w) one))
    of false e = ap (λ b. cond b op_none (operator_of w)) e ∙ operator_only is_short w operators (equal_is (length w) one)

pub long_made : (w : List ℕ) → (length w ≡ 1 → ⊥) → of_class Punctuator w ≡ operator_among w long_operators
long_made w more = of (is_word_operator w) refl
  where
    of : (b : Bool) → is_word_operator w ≡ b → of_class Punctuator w ≡ operator_among w long_operators
    of true e = ap (λ b. cond b op_none (operator_of w)) e ∙ sym (operator_none is_long w operators (and_right (not (nat_eq (length w) 1)) (not (is_word_operator w)) (ap not e)))
    of false e =
        ap (λ b. cond b op_none (operator_of w)) e
        ∙ operator_only is_long w operators (and_from (not (nat_eq (length w) 1)) (not (is_word_operator w)) (ap not (other_isnt (length w) more)) (ap not e))

-- a text of one byte
pub of_byte : (w : List ℕ) → length w ≡ 1 →
    coded_operator (operator_among (slice_index_or w 0 0 ∷ []) short_operators) (slice_index_or w 0 0 ∷ []) ≡ coded_operator (operator_among w short_operators) w
of_byte [] e = cc
of_byte (b ∷ []) e = refl
of_byte (b ∷ (c ∷ w)) e = cc

-- one that begins so is looked for among those that do; with no such byte it makes nothing
pub by_first : (bs : List ℕ) (w : List ℕ) (b : ℕ) → b ≡ slice_index_or w 0 0 → OneByte b bs →
    coded_operator (operator_among w (only_texts (begins_with bs) long_operators)) w ≡ coded_operator (operator_among w long_operators) w
by_first bs w b e h = sym (ap (λ o. coded_operator o w) (operator_only (begins_with bs) w long_operators (begins w b bs e h)))

pub by_no_first : (w : List ℕ) (b : ℕ) → b ≡ slice_index_or w 0 0 → NoByte b (codes "!=<>&?|+-%*/^") → None ≡ coded_operator (operator_among w long_operators) w
by_no_first w b e h =
    sym (ap (λ o. coded_operator o w) (operator_only (begins_else (codes "!=<>&?|+-%*/^")) w long_operators (begins_other w b (codes "!=<>&?|+-%*/^") e h)))

-- what a word makes, and what a text makes that is no such word
pub no_word : (w : List ℕ) → (w ≡ codes "in" → ⊥) → (w ≡ codes "instanceof" → ⊥) → None ≡ coded_operator (of_class IdentifierName w) w
no_word w a b =
    sym (ap (λ o. coded_operator o w) (name_made w ∙ ap (λ c. cond c (op_binary false Relational Shift) op_none) (none_among w ("instanceof" ∷ "in" ∷ []) (b, (a, tt)))))

pub word_found : (w : List ℕ) (x : Coded) → Some x ≡ coded_operator (of_class IdentifierName w) w → Some x ≡ coded_operator (operator_of w) w
word_found w x h = of (is_word_operator w) h
  where
    of : (b : Bool) → Some x ≡ coded_operator (cond b (operator_of w) op_none) w → Some x ≡ coded_operator (operator_of w) w
    of true h = h
    of false h = cc

pub word_missed : (w : List ℕ) → None ≡ coded_operator (of_class IdentifierName w) w → coded_operator (of_class Punctuator w) w ≡ coded_operator (operator_of w) w
word_missed w h = of (is_word_operator w) h
  where
    of : (b : Bool) → None ≡ coded_operator (cond b (operator_of w) op_none) w → coded_operator (cond b op_none (operator_of w)) w ≡ coded_operator (operator_of w) w
    of true h = h
    of false h = refl
