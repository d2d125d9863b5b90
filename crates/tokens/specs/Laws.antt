-- Laws of readings.
use Rattle.std.specs.Prelude.{◌≡◌, ℕ, List, [], ◌∷◌, ◌⊎◌}
use Rattle.tokens.specs.Goals.{Goal}
use Rattle.tokens.specs.Tokens.{LexicalToken, IsTokenAt, IsReading}

-- the token that a goal reads, and what is read behind it
pub record FirstIsRead (at : ℕ) (cs : List ℕ) (token : LexicalToken) (tokens : List LexicalToken) : Type 0 where
  pub goal : Goal
  pub rest : List ℕ
  pub read : IsTokenAt goal at cs token rest
  pub others : (tokens ≡ []) ⊎ IsReading token.stop rest tokens

-- by a goal at most one token is read at a place
abbrev pub AtMostOneToken : Type 0
AtMostOneToken = (goal : Goal) (at : ℕ) (cs : List ℕ) (a b : LexicalToken) (behind_a behind_b : List ℕ) →
    IsTokenAt goal at cs a behind_a → IsTokenAt goal at cs b behind_b → (a ≡ b) × (behind_a ≡ behind_b)

-- the first token of a reading is one that a goal reads there, and the reading goes on behind it, if it goes on
abbrev pub ReadingsTakeTokens : Type 0
ReadingsTakeTokens = (at : ℕ) (cs : List ℕ) (token : LexicalToken) (tokens : List LexicalToken) → IsReading at cs (token ∷ tokens) → FirstIsRead at cs token tokens
