-- What a call from C or from a page tells.
use Rattle.std.specs.Prelude.{◌≡◌, ◌≤◌, ◌⊎◌, ℕ, List, ◌++◌, Bool, true, false, length, take, drop, Option, Some, None, Result, Ok, Err}
use Rattle.commands.specs.Commands.{default_format}
use Rattle.commands.specs.Refusal.{refusal_line, status_of}
use Rattle.commands.specs.Refused.{no_memory}
use Rattle.commands.specs.declared.command.Command.{Command}
use Rattle.commands.specs.declared.command.Command.TheVariants.{Check, Tree, Fix, Unwrap, Mend, Format, Cost, Verify, Same}
use Rattle.commands.specs.declared.command.ReportForm.TheVariants.{Places, Spans}
use Rattle.commands.specs.declared.asked_language.AskedLanguage.{AskedLanguage}
use Rattle.commands.specs.declared.asked_language.AskedLanguage.TheVariants.{Said, Any}
use Rattle.commands.specs.declared.language_choice.LanguageChoice.TheVariants.{Unsaid, Edition2020, Edition2022, Module}
use Rattle.commands.specs.declared.refused.Refused.{Refused}
use Rattle.embedding.specs.Answers.{AnswersBytes}
use Rattle.embedding.specs.declared.output.Output.{Output}
use Rattle.embedding_c.specs.declared.Outcome.{Outcome}

abbrev pub number_of : Command → ℕ
number_of (Check Places) = 0
number_of Tree = 1
number_of Fix = 2
number_of Cost = 3
number_of Verify = 4
number_of Unwrap = 5
number_of (Check Spans) = 6
number_of Same = 7
number_of (Format choice) = 8
number_of Mend = 9

-- the command that a number names: `format` as where a call says nothing of it
abbrev pub Names : ℕ → Option Command → Type 0
Names number (Some (Format choice)) = (number ≡ 8) × (choice ≡ default_format)
Names number (Some command) = number ≡ number_of command
Names number None = 10 ≤ number

abbrev pub language_number : AskedLanguage → ℕ
language_number (Said Unsaid) = 0
language_number (Said Edition2020) = 1
language_number (Said Edition2022) = 2
language_number (Said Module) = 3
language_number Any = 4

-- what a number says of the language
abbrev pub NamesLanguage : ℕ → Option AskedLanguage → Type 0
NamesLanguage number (Some asked) = number ≡ language_number asked
NamesLanguage number None = 5 ≤ number

-- the bytes over the front of the room, as far as it goes
abbrev pub overwritten : List ℕ → List ℕ → List ℕ
overwritten bytes room = take (length room) bytes ++ drop (length bytes) room

abbrev pub flag : Bool → ℕ
flag false = 0
flag true = 1

-- these bytes are told, as far as there is room: an output or the line of a refusal
abbrev pub TellsBytes : (bytes : List ℕ) → (status : ℕ) → (is_refusal : Bool) → (room_before room_after : List ℕ) → Outcome → Type 0
TellsBytes bytes status is_refusal room_before room_after outcome =
    (outcome ≡ record { length = length bytes; status = status; is_refusal = flag is_refusal }) × (room_after ≡ overwritten bytes room_before)

-- a refusal is told by its line
abbrev pub TellsLine : Refused → (room_before room_after : List ℕ) → Outcome → Type 0
TellsLine refused room_before room_after outcome = TellsBytes (refusal_line refused) (status_of refused.fault) true room_before room_after outcome

-- the refusal is told; or that memory is refused
abbrev pub TellsRefusal : Refused → (room_before room_after : List ℕ) → Outcome → Type 0
TellsRefusal refused room_before room_after outcome = TellsLine refused room_before room_after outcome ⊎ TellsLine no_memory room_before room_after outcome

-- an answer is told
abbrev pub TellsResult : Result Output Refused → (room_before room_after : List ℕ) → Outcome → Type 0
TellsResult (Ok output) room_before room_after outcome = TellsBytes output.bytes.items output.status false room_before room_after outcome
TellsResult (Err refused) room_before room_after outcome = TellsLine refused room_before room_after outcome

-- what a command answers for these texts in a language is told
abbrev pub TellsBy : Command → AskedLanguage → (text second room_before room_after : List ℕ) → Outcome → Type 0
TellsBy command asked text second room_before room_after outcome =
    (answer : Result Output Refused) × AnswersBytes command asked text second answer × TellsResult answer room_before room_after outcome

-- what a command answers is told; or, where there is no command or no language, nothing
abbrev pub TellsOf : Option Command → Option AskedLanguage → (text second room_before room_after : List ℕ) → Outcome → Type 0
TellsOf (Some command) (Some asked) text second room_before room_after outcome = TellsBy command asked text second room_before room_after outcome
TellsOf command asked text second room_before room_after outcome = (room_after ≡ room_before) × (outcome ≡ record { length = 0; status = 2; is_refusal = 1 })

-- what a call tells
abbrev pub Tells : (number language : ℕ) → (text second room_before room_after : List ℕ) → Outcome → Type 0
Tells number language text second room_before room_after outcome =
    (command : Option Command) × (asked : Option AskedLanguage) × Names number command × NamesLanguage language asked
    × TellsOf command asked text second room_before room_after outcome
