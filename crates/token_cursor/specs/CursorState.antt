-- Where reading stands in a text, and what a goal reads there.
use Rattle.std.specs.Prelude.{◌≡◌, ◌≢◌, ℕ, ◌≤◌, ◌<◌, Bool, true, ◌||◌, nat_eq, slice_index_or, List, length, Result, Ok, Err, IsTrue}
use Rattle.std.specs.Str.{chars}
use Rattle.source_text.specs.Source.{IsPlace}
use Rattle.source_text.specs.declared.fault.Fault.{Fault}
use Rattle.source_text.specs.declared.fault.Fault.TheVariants.{Syntax}
use Rattle.tokens.specs.declared.token.TokenClass.TheVariants.{StringLiteral, End}
use Rattle.tokens.specs.declared.token.Goal.{Goal}
use Rattle.tokens.specs.declared.token.Goal.TheVariants.{Div}
use Rattle.tokens.specs.declared.token.Token.{Token as Scanned}
use Rattle.tokens.specs.declared.scanner.ScanFault.{ScanFault}
use Rattle.tokens.specs.Strings.{is_string}
use Rattle.tokens.specs.Tokens.{LexicalToken}
use Rattle.tokens.specs.Reading.{Reads}
use Rattle.tokens.specs.Scanned.{token_of}
use Rattle.language.specs.Token.{Token}
use Rattle.language.specs.declared.Language.{Language}
use Rattle.language.specs.Languages.{is_of_2022, seen_in}
use Rattle.token_cursor.specs.SourceText.{SourceText}

-- `/` and `}` are read by the goal, all else by every goal
abbrev pub depends : List ℕ → Bool
depends w = nat_eq (slice_index_or w 0 0) 47 || nat_eq (slice_index_or w 0 0) 125

-- the text, the token before as the text has it, and the open parentheses that group or hold an arrow's parameters
pub record CursorState : Type 0 where
  pub text : SourceText
  pub last : Token
  pub opened : ℕ

-- a token that the goal reads at a place of a text, as the language sees it
pub record IsAhead (goal : Goal) (text : SourceText) (at : ℕ) (t : LexicalToken) : Type 0 where
  pub scanned : LexicalToken
  pub read : Reads text.bytes goal at scanned
  pub seen : t ≡ seen_in text.language scanned
  pub begins : at ≤ t.start
  pub ordered : t.start ≤ t.stop
  pub goes_on : t.class ≢ End → t.start < t.stop
  pub start_place : IsPlace text.bytes t.start
  pub stop_place : IsPlace text.bytes t.stop
  pub string : t.class ≡ StringLiteral → IsTrue (is_string (chars t.text))

-- a token that some goal reads
abbrev pub IsAheadBySome : SourceText → ℕ → LexicalToken → Type 0
IsAheadBySome text at t = (goal : Goal) × IsAhead goal text at t

-- the goal reads no token
abbrev pub NoneAhead : Goal → SourceText → ℕ → Type 0
NoneAhead goal text at = (t : LexicalToken) → Reads text.bytes goal at t → ⊥

-- the goal reads no token but the end
abbrev pub OnlyEnd : Goal → SourceText → ℕ → Type 0
OnlyEnd goal text at = (t : LexicalToken) → Reads text.bytes goal at t → t.class ≡ End

-- a place of the text, not before another
abbrev pub IsPlaceFrom : SourceText → ℕ → ℕ → Type 0
IsPlaceFrom text at place = (at ≤ place) × IsPlace text.bytes place

-- what a scan answers: the token that the goal reads, or that it reads none
abbrev pub Ahead : Goal → SourceText → ℕ → Result Scanned ScanFault → Type 0
Ahead goal text at (Ok t) = IsAhead goal text at (token_of t)
Ahead goal text at (Err f) = NoneAhead goal text at × IsPlaceFrom text at f.at

-- a scan's answer, as a language of 2022 sees it
abbrev pub IsSeenScan : Result Scanned ScanFault → Result Scanned ScanFault → Type 0
IsSeenScan (Ok u) (Ok t) = (l : Language) → is_of_2022 l ≡ true → token_of t ≡ seen_in l (token_of u)
IsSeenScan (Err f) (Err g) = g ≡ f
IsSeenScan _ _ = ⊥

-- a syntax error that names a place of the text, not before another
abbrev pub IsSyntax : SourceText → ℕ → Fault → Type 0
IsSyntax text at (Syntax place) = IsPlaceFrom text at place
IsSyntax text at _ = ⊥

-- a token of the text was passed
abbrev pub Passes : CursorState → CursorState → Type 0
Passes s e = (s.last.stop < e.last.stop) × (s.last.stop < length s.text.bytes)

-- the place that a syntax error names: where what stands ahead begins
abbrev pub IsPlaceHere : CursorState → ℕ → Type 0
IsPlaceHere p at = IsPlaceFrom p.text p.last.stop at × ((t : LexicalToken) → Reads p.text.bytes Div p.last.stop t → at ≡ t.start)

-- a syntax error at such a place
abbrev pub IsSyntaxHere : CursorState → Fault → Type 0
IsSyntaxHere p (Syntax at) = IsPlaceHere p at
IsSyntaxHere p _ = ⊥
