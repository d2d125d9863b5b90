-- The line and the exit status of a refusal.
use Rattle.std.specs.Prelude.{ℕ, zero, suc, List, [], ◌∷◌, ◌++◌, Bool, true, false, Option, codes}
use Rattle.std.specs.Fmt.{decimal}
use Rattle.std.specs.Io.KnownBytes.{Appends}
use Rattle.source_text.specs.declared.fault.Fault.{Fault}
use Rattle.source_text.specs.declared.fault.Fault.TheVariants.{NotUtf8, TooLong, Syntax, TooDeep, Early, OutOfMemory, BadSettings, BadTable, WriteFailed, ReadFailed, UnwrapFailed, FormatFailed, Usage}
use Rattle.source_text.specs.declared.fault.Reason.{Reason}
use Rattle.source_text.specs.declared.fault.Reason.TheVariants as reason
use Rattle.source_text.specs.Writing.{AppendsBeginning}
use Rattle.commands.specs.declared.hint.Hint.{Hint}
use Rattle.commands.specs.declared.hint.Hint.TheVariants.{Nothing, Edition2022, Module, Unknown, InBase, InScript, InModule}
use Rattle.commands.specs.declared.refused.Refused.{Refused}

-- 1 for a bad cost table, else 2
abbrev pub status_of : Fault → ℕ
status_of (BadTable row why) = 1
status_of other = 2

abbrev pub reason_words : Reason → List ℕ
reason_words reason.Form = codes "Form"
reason_words reason.Shape = codes "Shape"
reason_words reason.None = codes "None"
reason_words reason.High = codes "High"
reason_words reason.Total = codes "Total"

-- a line and a column, as `3:14`
abbrev pub place_words : ℕ → ℕ → List ℕ
place_words line column = decimal line ++ codes ":" ++ decimal column

-- a line and a column behind what is there; nothing where there is no place
abbrev pub at_place_words : ℕ → ℕ → List ℕ
at_place_words zero column = []
at_place_words (suc line) column = codes " at " ++ place_words (suc line) column

-- what a fault says, given the line and the column of its place; a usage error has words of its own, by the command line
abbrev pub fault_words : Fault → ℕ → ℕ → List ℕ
fault_words (NotUtf8 at) line column = codes "not UTF-8 at byte " ++ decimal at
fault_words TooLong line column = codes "longer than 16777216 bytes"
fault_words (Syntax at) line column = codes "syntax error at " ++ place_words line column
fault_words TooDeep line column = codes "nested too deep"
fault_words (Early number at) line column = codes "early error E" ++ decimal number ++ codes " at " ++ place_words line column
fault_words OutOfMemory line column = codes "out of memory"
fault_words BadSettings line column = codes "bad settings" ++ at_place_words line column
fault_words (BadTable row why) line column = codes "bad table row " ++ decimal row ++ codes " " ++ reason_words why
fault_words WriteFailed line column = codes "write failed"
fault_words ReadFailed line column = codes "read failed"
fault_words UnwrapFailed line column = codes "can't be unwrapped"
fault_words FormatFailed line column = codes "can't be formatted"
fault_words Usage line column = []

-- that a refusal speaks of the second script
abbrev pub script_words : Bool → List ℕ
script_words true = codes "second file: "
script_words false = []

-- what to say on the command line for a later language, as a guess; nothing where none is known to take the text; or the language of the refusal, where
-- each was tried
abbrev pub hint_words : Hint → List ℕ
hint_words Nothing = []
hint_words Edition2022 = codes " (perhaps: --edition 2022)"
hint_words Module = codes " (perhaps: --module)"
hint_words Unknown = []
hint_words InBase = codes " (in the base profile)"
hint_words InScript = codes " (as a script of 2022)"
hint_words InModule = codes " (as a module)"

abbrev pub refusal_words : Refused → List ℕ
refusal_words refused = script_words refused.in_second ++ fault_words refused.fault refused.line refused.column ++ hint_words refused.hint

-- the line of a refusal, with its line feed
abbrev pub refusal_line : Refused → List ℕ
refusal_line refused = codes "jslint: " ++ refusal_words refused ++ 10 ∷ []

-- the line was written, or a beginning of it and the writer has failed
abbrev pub WritesLine : List ℕ → Option (List ℕ) → Option (List ℕ) → Bool → Type 0
WritesLine line before after false = Appends before after line
WritesLine line before after true = AppendsBeginning before after line
