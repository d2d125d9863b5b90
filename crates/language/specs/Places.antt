-- A text's own places: a place is the token behind which reading goes on (ECMA-262 11). The text is its bytes.
use Rattle.std.specs.Prelude.{ℕ, Bool, List, IsTrue}
use Rattle.tree.specs.declared.kind.Pair.{Pair}
use Rattle.tree.specs.Tree.{Tree}
use Rattle.tokens.specs.declared.token.Goal.{Goal}
use Rattle.tokens.specs.Tokens.{LexicalToken}
use Rattle.tokens.specs.Reading.{Reads, any_goal}
use Rattle.language.specs.Token.{Token, as_read}
use Rattle.language.specs.Pieces.{Role}
use Rattle.language.specs.Grammar.{ways}
use Rattle.language.specs.Derivation.{Spells}

-- behind `s` a token is read, by a goal that passes the test, and reading goes on behind it
pub data NextIn (text : List ℕ) (goals : Goal → Bool) : Token → Token → Token → Type 0 where
  next_in : {s : Token} {t : LexicalToken} → (goal : Goal) → IsTrue (goals goal) → Reads text goal s.stop t → NextIn text goals s (as_read t) (as_read t)

-- the token behind which reading goes on is the place itself
abbrev pub itself : Token → Token
itself token = token

-- from one place of a text to another the tokens spell the node: at `/` and `}` both choices are there
abbrev pub SpellsIn : List ℕ → ℕ → Role → Tree → Token → Token → List Pair → Type 0
SpellsIn text = Spells ways Token (NextIn text any_goal) itself
