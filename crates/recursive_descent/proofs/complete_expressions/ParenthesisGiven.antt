-- Where the code has a parenthesis for the first token, that is a `(` (ECMA-262 12.2.10).
use Rattle.std.proofs.Common.{◌≡◌, ℕ, Bool, true, false, cond, List, [], ◌∷◌, refl, ap}
use Rattle.std.specs.Prelude.{Some, codes, nat_eq, slice_index_or}
use Rattle.std.proofs.lemmas.Bool.{false≢true}
use Rattle.tokens.specs.Tokens.{LexicalToken}
use Rattle.tokens.specs.declared.token.TokenClass.{TokenClass}
use Rattle.tokens.specs.declared.token.TokenClass.TheVariants.{IdentifierName, Punctuator, NumericLiteral, StringLiteral, Template, RegularExpressionLiteral, PrivateName, Keyword, End}
use Rattle.tokens.specs.declared.token.Goal.TheVariants as goal
use Rattle.token_cursor.specs.CursorState.{IsAhead}
use Rattle.language.specs.Vocabulary.{is_reserved, is_keyword}
use Rattle.language.specs.Token.{Token, as_read}
use Rattle.language.specs.ExpressionStart.{ExpressionStart, with_name, with_parenthesis, with_template, with_word, no_start, expression_start, expression_start_by, start_words, start_punctuators}
use Rattle.language.proofs.table.Begins.{among_by}
use Rattle.parser_tables.specs.declared.expression_starts.ExpressionStart.TheVariants as code
use Rattle.parser_tables.specs.ExpressionStarts.{coded_start, coded_in}
use Rattle.recursive_descent.proofs.sound_expressions.CodedStarts.{coded_plain}
use Rattle.recursive_descent.proofs.complete_expressions.Agreement.{read_here}
use Rattle.language.specs.Derivation.{Reads}
use Rattle.token_cursor.specs.Seen.{Sees}
use Rattle.recursive_descent.proofs.sound_expressions.StartsByToken.{by_texts}
use Rattle.token_cursor.proofs.TokensAhead.{ahead_read}
use Rattle.token_cursor.specs.SourceText.{SourceText, SeenNext, behind_in, unseen}

abbrev is_parenthesis : ExpressionStart → Bool
is_parenthesis with_parenthesis = true
is_parenthesis _ = false

other_word : (b : Bool) → is_parenthesis (cond b no_start with_name) ≡ false
other_word true = refl
other_word false = refl

other_part : {A : Type 0} (b : Bool) → is_parenthesis (cond b with_template no_start) ≡ true → A
other_part true h = absurd (false≢true h)
other_part false h = absurd (false≢true h)

other_keyword : {A : Type 0} (b : Bool) → is_parenthesis (cond b with_word no_start) ≡ true → A
other_keyword true h = absurd (false≢true h)
other_keyword false h = absurd (false≢true h)

-- its class and its text
parenthesis_of : (c : TokenClass) (w : List ℕ) → expression_start_by c w ≡ with_parenthesis → (c ≡ Punctuator) × (w ≡ codes "(")
parenthesis_of IdentifierName w h = absurd (false≢true (by_texts is_parenthesis w start_words (cond (is_reserved w) no_start with_name) (other_word (is_reserved w)) (ap is_parenthesis h)))
parenthesis_of Punctuator w h = (refl, among_by (λ v. v ≡ codes "(") w ("(" ∷ []) (by_texts is_parenthesis w start_punctuators no_start refl (ap is_parenthesis h)) (refl, tt))
parenthesis_of NumericLiteral w h = cc
parenthesis_of StringLiteral w h = cc
parenthesis_of RegularExpressionLiteral w h = cc
parenthesis_of Template w h = other_part (nat_eq (slice_index_or w 0 0) 96) (ap is_parenthesis h)
parenthesis_of PrivateName w h = cc
parenthesis_of Keyword w h = other_keyword (is_keyword w) (ap is_parenthesis h)
parenthesis_of End w h = cc

parenthesis_coded : (x : ExpressionStart) → coded_start x ≡ Some code.Parenthesis → x ≡ with_parenthesis
parenthesis_coded with_parenthesis h = refl
parenthesis_coded _ h = cc

pub parenthesis_ahead : (text : SourceText) (s : Token) (u : LexicalToken) → IsAhead goal.RegExp text s.stop u → coded_in text.language (as_read u) ≡ Some code.Parenthesis → Sees text Punctuator (codes "(") s
parenthesis_ahead text s u ahead coded =
    let by = parenthesis_of (as_read u).class (as_read u).text (parenthesis_coded (expression_start (as_read u)) (coded_plain text.language (expression_start (as_read u)) (as_read u).text code.Parenthesis coded refl)) in
    let reads : Reads Token (SeenNext text) (behind_in text) Punctuator (codes "(") s (as_read u) (unseen (as_read u)) = record { next = (ahead_read text goal.RegExp s u ahead).next; class = by.0; text = by.1 } in
    (unseen (as_read u), read_here text reads)
