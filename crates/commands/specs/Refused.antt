-- The place that a refusal speaks of.
use Rattle.std.specs.Prelude.{ℕ, List, false}
use Rattle.source_text.specs.Source.{IsPlace}
use Rattle.source_text.specs.Lines.{line_column}
use Rattle.source_text.specs.declared.fault.Fault.{Fault}
use Rattle.source_text.specs.declared.fault.Fault.TheVariants.{Syntax, Early, OutOfMemory}
use Rattle.commands.specs.declared.hint.Hint.TheVariants.{Nothing}
use Rattle.commands.specs.declared.refused.Refused.{Refused}

-- the line and the column of the place that a fault speaks of, both 0 where it speaks of none
abbrev pub place_of : List ℕ → Fault → ℕ × ℕ
place_of text (Syntax at) = line_column text at
place_of text (Early number at) = line_column text at
place_of text other = (0, 0)

-- where a fault speaks of a place, it is one of the text
abbrev pub HasPlace : List ℕ → Fault → Type 0
HasPlace text (Syntax at) = IsPlace text at
HasPlace text (Early number at) = IsPlace text at
HasPlace text other = Unit {0}

-- a refusal that speaks of no place, without a hint
abbrev pub at_no_place : Fault → Refused
at_no_place fault = record { fault = fault; in_second = false; line = 0; column = 0; hint = Nothing }

-- memory is refused
abbrev pub no_memory : Refused
no_memory = at_no_place OutOfMemory
