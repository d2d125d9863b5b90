-- A token that is passed, as how far reading went.
use Rattle.std.proofs.Common.{◌≢◌, ℕ, ◌<◌, length, arith}
use Rattle.tokens.specs.Tokens.{LexicalToken}
use Rattle.tokens.specs.declared.token.TokenClass.TheVariants.{End}
use Rattle.tokens.specs.declared.token.Goal.{Goal}
use Rattle.token_cursor.specs.CursorState.{IsAhead, IsAheadBySome}
use Rattle.recursive_descent.specs.declared.statement_symbols.Expected.{Expected}
use Rattle.recursive_descent.specs.declared.statement_symbols.Expected.TheVariants.{Handler}
use Rattle.recursive_descent.specs.Handlers.{IfHandler}
use Rattle.token_cursor.specs.SourceText.{SourceText}

-- a token that isn't the end goes on from where it is read, within the text
pub goes_on : (text : SourceText) (at : ℕ) (t : LexicalToken) → IsAheadBySome text at t → t.class ≢ End → (at < t.stop) × (at < length text.bytes)
goes_on text at t (goal, a) real =
    let past = a.goes_on real in
    let begins = a.begins in
    let within = a.stop_place.0 in
    (omega arith, omega arith)

pub by_goal : {text : SourceText} {at : ℕ} {t : LexicalToken} (goal : Goal) → IsAhead goal text at t → IsAheadBySome text at t
by_goal goal a = (goal, a)

-- no handler
pub never : (w : Expected) (P : Type 0) → IfHandler w ⊥ → IfHandler w P
never (Handler start) P h = absurd h
never _ P h = tt

pub ruleset moves = (by_goal, never)
