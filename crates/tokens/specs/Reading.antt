-- The tokens of a text at its own places, which are byte offsets; the text is its bytes, as a source keeps it.
use Rattle.std.specs.Prelude.{ℕ, Bool, true, List, drop, IsTrue}
use Rattle.std.specs.Str.{chars}
use Rattle.tokens.specs.Goals.{Goal}
use Rattle.tokens.specs.Tokens.{LexicalToken, IsTokenAt}

-- the characters behind a place
abbrev pub behind : List ℕ → ℕ → List ℕ
behind text at = chars (drop at text)

-- from a place on the goal reads this token, and the text goes on behind it
abbrev pub Reads : List ℕ → Goal → ℕ → LexicalToken → Type 0
Reads text goal at token = IsTokenAt goal at (behind text at) token (behind text token.stop)

-- Where a token may be read: behind the token before. Behind `s` the token `t` is read, by a goal that passes the test, and reading goes on
-- behind it.
pub data Next (text : List ℕ) (goals : Goal → Bool) : LexicalToken → LexicalToken → LexicalToken → Type 0 where
  next : {s t : LexicalToken} → (goal : Goal) → IsTrue (goals goal) → Reads text goal s.stop t → Next text goals s t t

-- all goals: at `/` and `}` both choices are there
abbrev pub any_goal : Goal → Bool
any_goal goal = true
