-- How a text is refused.
use Rattle.std.specs.Prelude.{◌≡◌, ℕ}
use Rattle.source_text.specs.Source.{IsPlace}
use Rattle.token_cursor.specs.SourceText.{SourceText}
use Rattle.source_text.specs.declared.fault.Fault.{Fault}
use Rattle.source_text.specs.declared.fault.Fault.TheVariants.{Syntax, TooDeep, OutOfMemory}

-- it is too high, or memory is refused
abbrev pub IsLimit : Fault → Type 0
IsLimit TooDeep = Unit {0}
IsLimit OutOfMemory = Unit {0}
IsLimit _ = ⊥

-- so, or a syntax error names the place that was handed in
abbrev pub IsStop : ℕ → Fault → Type 0
IsStop at (Syntax place) = place ≡ at
IsStop at fault = IsLimit fault

-- a syntax error names a place of the text; else it is nested too deep, or memory is refused
abbrev pub IsRefusal : SourceText → Fault → Type 0
IsRefusal text (Syntax at) = IsPlace text.bytes at
IsRefusal text fault = IsLimit fault
