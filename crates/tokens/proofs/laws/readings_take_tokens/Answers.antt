use Rattle.std.proofs.Common.{ℕ, List, [], ◌∷◌, refl, inl, inr}
use Rattle.tokens.specs.Tokens.{LexicalToken, IsReading, last, more}
use Rattle.tokens.specs.Laws.{FirstIsRead}
use Rattle.tokens.proofs.laws.readings_take_tokens.Goals as goal

first : (at : ℕ) (cs : List ℕ) (token : LexicalToken) (tokens : List LexicalToken) → IsReading at cs (token ∷ tokens) → FirstIsRead at cs token tokens
first at cs token tokens (last goal h e) = record { goal = goal; rest = []; read = h; others = inl refl }
first at cs token tokens (more {rest = rest} goal h n r) = record { goal = goal; rest = rest; read = h; others = inr r }

pub returns : goal.returns
returns c = first
