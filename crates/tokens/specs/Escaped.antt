-- What the program's own calls say of escapes: how many characters are passed, and the value that they stand for.
use Rattle.std.specs.Prelude.{◌≡◌, ℕ, ◌+◌, ◌<◌, false, List, [], ◌++◌, length, take, Option, Some, None, IfSome, IsTrue}
use Rattle.std.specs.Str.{bytes_eq}
use Rattle.std.specs.Char.Escape.{encode_utf16}
use Rattle.tokens.specs.declared.escape.Escaped.{Escaped as Found}
use Rattle.tokens.specs.Escapes.{Piece}
use Rattle.tokens.specs.Strings.{closes_string}
use Rattle.tokens.specs.Reading.{behind}
use Rattle.tokens.specs.Scanned.{Passed}

-- the units of a value, a code point or nothing
abbrev pub units_of : Option ℕ → List ℕ
units_of None = []
units_of (Some value) = encode_utf16 value

-- What is found from a place on is a piece of the definition, of whose characters so many stand before the place already.
pub record IsPieceAt (definition : Option Piece) (before : ℕ) (text : List ℕ) (at : ℕ) (found : Found) : Type 0 where
  pub word : List ℕ
  pub passed : Passed text at found.end word
  pub is : definition ≡ Some (record { more = length word + before; units = units_of found.value })
  pub code_point : IfSome found.value (λ value. value < 0x11_0000)

-- a string behind its first quote, to the quote that ends it
pub record IsStringRest (quote : ℕ) (text : List ℕ) (at stop : ℕ) : Type 0 where
  pub word : List ℕ
  pub passed : Passed text at stop word
  pub closes : IsTrue (closes_string quote 0 word)

-- no such rest stands at a place
abbrev pub NoStringRest : ℕ → List ℕ → ℕ → Type 0
NoStringRest quote text at = (word rest : List ℕ) → behind text at ≡ word ++ rest → IsTrue (closes_string quote 0 word) → ⊥

-- no units that begin with so many bytes of a word and these behind them are its bytes
abbrev pub IsOther : List ℕ → ℕ → List ℕ → Type 0
IsOther word matched units = (more : List ℕ) → bytes_eq ((take matched word ++ units) ++ more) word ≡ false
