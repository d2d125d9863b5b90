-- The token that is read at a place of a text, and readings of whole texts (ECMA-262 11). Texts are lists of characters, places count bytes.
use Rattle.std.specs.Prelude.{◌≡◌, ℕ, ◌+◌, Bool, true, false, not, List, [], ◌∷◌, ◌++◌, length, encode_utf8_all, IsTrue}
use Rattle.std.specs.List.{list_any}
use Rattle.source_text.specs.Lines.{is_line_terminator}
use Rattle.tokens.specs.Comments.{begins_comment, Separators}
use Rattle.tokens.specs.Lexical.{LexicalClass, is_token}
use Rattle.tokens.specs.Goals.{Goal, allows}

-- the text is that of the source, in UTF-8
pub record LexicalToken : Type 0 where
  pub class : LexicalClass
  pub text : List ℕ
  pub start : ℕ
  pub stop : ℕ
  pub after_break : Bool

-- the number of bytes
abbrev pub size : List ℕ → ℕ
size cs = length (encode_utf8_all cs)

-- From `at`, where the characters `cs` stand, the goal reads this token, and `rest` stands behind it. A comment is taken wherever one can
-- begin, and where one can that doesn't end, no token begins.
pub record IsTokenAt (goal : Goal) (at : ℕ) (cs : List ℕ) (token : LexicalToken) (rest : List ℕ) : Type 0 where
  pub gap : List ℕ
  pub word : List ℕ
  pub split : cs ≡ gap ++ word ++ rest
  pub separated : Separators gap (word ++ rest)
  pub no_comment : IsTrue (not (begins_comment (word ++ rest)))
  pub longest : IsTrue (is_token token.class word rest)
  pub allowed : IsTrue (allows goal token.class word)
  pub text : token.text ≡ encode_utf8_all word
  pub start : token.start ≡ at + size gap
  pub stop : token.stop ≡ token.start + size word
  pub after_break : token.after_break ≡ list_any is_line_terminator gap

abbrev pub is_end : LexicalClass → Bool
is_end LexicalClass.End = true
is_end _ = false

-- A reading, from a place to the end of the text: each token by a goal of the reading's own choice
pub data IsReading : ℕ → List ℕ → List LexicalToken → Type 0 where
  last : {at : ℕ} {cs : List ℕ} {token : LexicalToken} → (goal : Goal) → IsTokenAt goal at cs token [] → IsTrue (is_end token.class) →
      IsReading at cs (token ∷ [])
  more : {at : ℕ} {cs rest : List ℕ} {token : LexicalToken} {tokens : List LexicalToken} → (goal : Goal) →
      IsTokenAt goal at cs token rest → IsTrue (not (is_end token.class)) → IsReading token.stop rest tokens → IsReading at cs (token ∷ tokens)
