-- Tokens of the 11th edition of ECMA-262: no number has a separator, and there are no logical assignments.
use Rattle.std.specs.Prelude.{◌≡◌, ℕ, ◌+◌, Bool, true, false, not, ◌&&◌, List, [], ◌∷◌, ◌++◌, encode_utf8_all, IsTrue}
use Prim.Native.String.{String}
use Rattle.std.specs.List.{list_any}
use Rattle.source_text.specs.Lines.{is_line_terminator}
use Rattle.tokens.specs.Alphabet.{one_of}
use Rattle.tokens.specs.Comments.{begins_comment, Separators}
use Rattle.tokens.specs.Lexical.{LexicalClass, IdentifierName, Punctuator, NumericLiteral, StringLiteral, Template, RegularExpressionLiteral, PrivateName, Keyword, End, is_one_of_words, is_at, ends_well}
use Rattle.tokens.specs.Goals.{Goal, allows}
use Rattle.tokens.specs.Tokens.{LexicalToken, size}
use Rattle.tokens.specs.Reading.{behind}

abbrev pub new_punctuators : List String
new_punctuators = "&&=" ∷ "||=" ∷ "??=" ∷ []

-- what later editions added to a class
abbrev pub is_new : LexicalClass → List ℕ → Bool
is_new Punctuator text = is_one_of_words new_punctuators text
is_new NumericLiteral text = list_any (one_of "_") text
is_new IdentifierName text = false
is_new StringLiteral text = false
is_new Template text = false
is_new RegularExpressionLiteral text = false
is_new PrivateName text = true
is_new Keyword text = true
is_new End text = false

-- an earlier text of the class at its place, where no longer one goes on into what stands behind
abbrev pub earlier_is_at : LexicalClass → List ℕ → List ℕ → Bool
earlier_is_at class text rest = is_at class text rest && not (is_new class text)

abbrev pub earlier_none_longer : LexicalClass → List ℕ → List ℕ → Bool
earlier_none_longer class text [] = true
earlier_none_longer class text (c ∷ rest) = not (earlier_is_at class (text ++ c ∷ []) rest) && earlier_none_longer class (text ++ c ∷ []) rest

abbrev pub earlier_is_token : LexicalClass → List ℕ → List ℕ → Bool
earlier_is_token class text rest = earlier_is_at class text rest && earlier_none_longer class text rest && ends_well class rest

-- an earlier token, read as one of today
pub record EarlierTokenAt (goal : Goal) (at : ℕ) (cs : List ℕ) (token : LexicalToken) (rest : List ℕ) : Type 0 where
  pub gap : List ℕ
  pub word : List ℕ
  pub split : cs ≡ gap ++ word ++ rest
  pub separated : Separators gap (word ++ rest)
  pub no_comment : IsTrue (not (begins_comment (word ++ rest)))
  pub longest : IsTrue (earlier_is_token token.class word rest)
  pub allowed : IsTrue (allows goal token.class word)
  pub text : token.text ≡ encode_utf8_all word
  pub start : token.start ≡ at + size gap
  pub stop : token.stop ≡ token.start + size word
  pub after_break : token.after_break ≡ list_any is_line_terminator gap

abbrev pub EarlierReads : List ℕ → Goal → ℕ → LexicalToken → Type 0
EarlierReads text goal at token = EarlierTokenAt goal at (behind text at) token (behind text token.stop)
