-- What the program's own calls say of a text: what is passed from one place to another, as characters.
use Rattle.std.specs.Prelude.{◌≡◌, ℕ, ◌+◌, Bool, false, ◌||◌, List, ◌∷◌, ◌++◌, take, IsTrue, IsFalse}
use Rattle.std.specs.List.{list_all, list_any}
use Rattle.source_text.specs.Source.{IsPlace}
use Rattle.source_text.specs.Lines.{is_line_terminator}
use Rattle.tokens.specs.declared.token.Token.{Token}
use Rattle.tokens.specs.Alphabet.{begins_with, is_white_space}
use Rattle.tokens.specs.Comments.{begins_comment, is_comment, Separators}
use Rattle.tokens.specs.PunctuatorSets.{front, tail}
use Rattle.tokens.specs.Closers.{closes_from, ends_part}
use Rattle.tokens.specs.Lexical.{LexicalClass, is_token}
use Rattle.tokens.specs.Goals.{Goal}
use Rattle.tokens.specs.TokenStarts.{class_of}
use Rattle.tokens.specs.Tokens.{LexicalToken, size}
use Rattle.tokens.specs.Reading.{behind}

-- the token that a scanned one stands for
abbrev pub token_of : Token → LexicalToken
token_of token = record { class = token.class; text = token.text.now; start = token.start; stop = token.end; after_break = token.after_break }

-- these characters stand from a place to another
pub record Passed (text : List ℕ) (at stop : ℕ) (word : List ℕ) : Type 0 where
  pub split : behind text at ≡ word ++ behind text stop
  pub reaches : stop ≡ at + size word
  pub place : IsPlace text stop

-- the word of a class that stands at a place, the longest
pub record IsWordAt (class : LexicalClass) (text : List ℕ) (at stop : ℕ) : Type 0 where
  pub word : List ℕ
  pub passed : Passed text at stop word
  pub longest : IsTrue (is_token class word (behind text stop))

-- the word of the class that the goal reads at a place where no comment begins
pub record IsLexemeAt (goal : Goal) (text : List ℕ) (at : ℕ) (class : LexicalClass) (stop : ℕ) : Type 0 where
  pub read : class ≡ class_of goal (behind text at)
  pub word : IsWordAt class text at stop
  pub no_comment : begins_comment (behind text at) ≡ false

-- no word of the class stands at a place
abbrev pub NoWordAt : LexicalClass → List ℕ → ℕ → Type 0
NoWordAt class text at = (word rest : List ℕ) → behind text at ≡ word ++ rest → IsTrue (is_token class word rest) → ⊥

-- what stands between two places are separators, with a line terminator or without
pub record IsGap (text : List ℕ) (at stop : ℕ) (has_line_break : Bool) : Type 0 where
  pub gap : List ℕ
  pub passed : Passed text at stop gap
  pub separated : Separators gap (behind text stop)
  pub breaks : has_line_break ≡ list_any is_line_terminator gap

-- characters that all pass a test, from one place to another
pub record AllPass (test : ℕ → Bool) (text : List ℕ) (at stop : ℕ) : Type 0 where
  pub word : List ℕ
  pub passed : Passed text at stop word
  pub all : IsTrue (list_all test word)

-- characters that all pass a test, up to the first that doesn't
pub record IsRun (test : ℕ → Bool) (text : List ℕ) (at stop : ℕ) : Type 0 where
  pub run : AllPass test text at stop
  pub ends : IsFalse (begins_with test (behind text stop))

-- a comment's rest behind its `/*`, with a line terminator or without
pub record IsBlockRest (text : List ℕ) (at stop : ℕ) (has_line_break : Bool) : Type 0 where
  pub word : List ℕ
  pub passed : Passed text at stop word
  pub closes : IsTrue (closes_from false word)
  pub breaks : has_line_break ≡ list_any is_line_terminator word

-- no comment's rest stands at a place
abbrev pub NoBlockRest : List ℕ → ℕ → Type 0
NoBlockRest text at = (word rest : List ℕ) → behind text at ≡ word ++ rest → IsTrue (closes_from false word) → ⊥

-- a comment behind its `/`
pub record IsCommentRest (text : List ℕ) (at stop : ℕ) (has_line_break : Bool) : Type 0 where
  pub word : List ℕ
  pub passed : Passed text at stop word
  pub comment : IsTrue (is_comment (0x2F ∷ word) (behind text stop))
  pub breaks : has_line_break ≡ list_any is_line_terminator word

abbrev pub NoCommentRest : List ℕ → ℕ → Type 0
NoCommentRest text at = (word rest : List ℕ) → behind text at ≡ word ++ rest → IsTrue (is_comment (0x2F ∷ word) rest) → ⊥

-- one separator: a white space, a line terminator or a comment
pub record IsSeparator (text : List ℕ) (at stop : ℕ) (has_line_break : Bool) : Type 0 where
  pub word : List ℕ
  pub passed : Passed text at stop word
  pub separated : Separators word (behind text stop)
  pub breaks : has_line_break ≡ list_any is_line_terminator word

-- no separator stands in front of these characters
pub record IsSolid (cs : List ℕ) : Type 0 where
  pub no_blank : IsFalse (begins_with (λ c. is_white_space c || is_line_terminator c) cs)
  pub no_comment : (word rest : List ℕ) → cs ≡ word ++ rest → IsTrue (is_comment word rest) → ⊥

-- a regular expression behind its `/`
pub record IsFlagsAt (text : List ℕ) (at stop : ℕ) : Type 0 where
  pub word : List ℕ
  pub passed : Passed text at stop word
  pub longest : IsTrue (is_token LexicalClass.RegularExpressionLiteral (0x2F ∷ word) (behind text stop))

abbrev pub NoFlagsAt : List ℕ → ℕ → Type 0
NoFlagsAt text at = (word rest : List ℕ) → behind text at ≡ word ++ rest → IsTrue (is_token LexicalClass.RegularExpressionLiteral (0x2F ∷ word) rest) → ⊥

-- a part of a template behind its first character
pub record IsPartRest (text : List ℕ) (at stop : ℕ) : Type 0 where
  pub word : List ℕ
  pub passed : Passed text at stop word
  pub ends : IsTrue (ends_part false false word)

abbrev pub NoPartRest : List ℕ → ℕ → Type 0
NoPartRest text at = (word rest : List ℕ) → behind text at ≡ word ++ rest → IsTrue (ends_part false false word) → ⊥

-- a look at the next character, 0 at the end, and the place behind it
pub record Looks (text : List ℕ) (at c stop : ℕ) : Type 0 where
  pub first : c ≡ front (behind text at)
  pub others : behind text stop ≡ tail (behind text at)
  pub reaches : stop ≡ at + size (take 1 (behind text at))
  pub place : IsPlace text stop
