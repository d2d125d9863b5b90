-- Runs over the files of a list.
use Rattle.std.specs.Prelude.{◌≡◌, ◌+◌, ◌<◌, ◌⊎◌, ℕ, List, [], Option, None, Some, IfSome, Result, Ok, Err, length, take, true, false}
use Rattle.std.specs.Str.{IsUtf8}
use Rattle.clap.specs.Words.{Text}
use Rattle.source_text.specs.Source.{max_bytes}
use Rattle.source_text.specs.declared.fault.Fault.TheVariants.{TooLong}
use Rattle.commands.specs.Refused.{at_no_place, no_memory}
use Rattle.commands.specs.declared.command.Command.{Command}
use Rattle.commands.specs.declared.asked_language.AskedLanguage.{AskedLanguage}
use Rattle.commands.specs.declared.refused.Refused.{Refused}
use Rattle.command_line.specs.Shown.{escaped_name, shown_bytes}
use Rattle.command_line.specs.declared.line.Line.{Line}
use Rattle.command_line.specs.declared.unread.ReadFailure.{ReadFailure}
use Rattle.command_line.specs.declared.unread.ReadFailure.TheVariants.{InList, NotUtf8, Twice}
use Rattle.embedding.specs.Answers.{AnswersBytes}
use Rattle.embedding.specs.declared.output.Output.{Output}
use Rattle.many_files.specs.ManyFiles.{Seen, TellsEach, Told}
use Rattle.many_files.specs.Names.{names_of}
use Rattle.named_answers.specs.NamedAnswers.{Tells, told_no_memory, told_of, told_unread}
use Rattle.named_answers.specs.declared.Telling.{Telling}
use Rattle.jslint.specs.LineFiles.{IsFailure, IsNamed, IsOfOpened, is_twice, second_name}
use Rattle.jslint.specs.Opened.{Contents, is_input}
use Rattle.jslint.specs.declared.files.Stop.{Stop}
use Rattle.jslint.specs.declared.files.Stop.TheVariants.{Refuses, Unread}

-- these bytes are what there is to read under a name, up to one past the limit
abbrev pub Holds : Contents → Text → List ℕ → Type 0
Holds gives name bytes = (given : Option (List ℕ)) × gives name (Ok given) × IfSome given (λ all. bytes ≡ take (max_bytes + 1) all)

-- the file of a name can't be opened, or what was opened can't be read
abbrev pub CannotRead : Contents → Text → ReadFailure → Type 0
CannotRead gives name failure = IsFailure gives name failure ⊎ (IsOfOpened failure × ((given : Option (List ℕ)) × gives name (Ok given)))

-- what a read of a whole file stops at
abbrev pub StopsReading : Contents → Text → Stop → Type 0
StopsReading gives name (Unread unread failure) = (unread.now ≡ name) × CannotRead gives name failure
StopsReading gives name (Refuses refused) = refused ≡ no_memory

-- what is told of a file whose read stops
abbrev pub told_stop : List ℕ → Stop → Told
told_stop shown (Unread name failure) = told_unread shown failure
told_stop shown (Refuses refused) = told_of shown (Err refused)

-- What is told of a file alone, by its name: the answer of a run over what it holds; or why there is none. Its lines have the name, each hidden character
-- escaped; of a name that isn't UTF-8 each byte beyond ASCII.
pub data TellsFile (gives : Contents) (command : Command) (asked : AskedLanguage) (settings name : List ℕ) (told : Told) : Type 0 where
  answered : (text : List ℕ) (answer : Result Output Refused) → Holds gives name text → AnswersBytes command asked text settings answer
      → told ≡ told_of (escaped_name name) answer → TellsFile gives command asked settings name told
  unread : (failure : ReadFailure) → CannotRead gives name failure → told ≡ told_unread (escaped_name name) failure → TellsFile gives command asked settings name told
  input : is_input name ≡ true → told ≡ told_unread (escaped_name name) InList → TellsFile gives command asked settings name told
  misnamed : ¬ (IsUtf8 name) → told ≡ told_unread (shown_bytes name) NotUtf8 → TellsFile gives command asked settings name told
  no_memory_for : told ≡ told_of (escaped_name name) (Err no_memory) → TellsFile gives command asked settings name told
  no_memory_left : told ≡ told_no_memory → TellsFile gives command asked settings name told

-- what is to be told is what a file alone has
abbrev pub IsTelling : Contents → Command → AskedLanguage → (settings name : List ℕ) → Telling → Type 0
IsTelling gives command asked settings name telling = (told : Told) × TellsFile gives command asked settings name told × Tells telling told

-- a file of a line can't be read, or memory is refused
abbrev pub StopsFile : Contents → Line → Stop → Type 0
StopsFile gives line (Unread name failure) = IsNamed line name.now × CannotRead gives name.now failure
StopsFile gives line (Refuses refused) = refused ≡ no_memory

-- what there is to read under a name, where there is a name, or nothing
abbrev pub HoldsAny : Contents → Option Text → List ℕ → Type 0
HoldsAny gives None bytes = bytes ≡ []
HoldsAny gives (Some name) bytes = Holds gives name bytes

-- the settings of a line
abbrev pub HasSettings : Contents → Line → List ℕ → Type 0
HasSettings gives line settings = HoldsAny gives (second_name line) settings

-- The list of a line and its settings were read, once, and each file that the list names was told of.
abbrev pub TellsListed : Contents → Line → AskedLanguage → Seen → Seen → ℕ → Type 0
TellsListed gives line asked output errors status =
    (list settings : List ℕ) × Holds gives line.file.now list × HasSettings gives line settings
    × TellsEach (TellsFile gives line.command asked settings) (names_of list) output errors status

-- why the files of a list aren't looked at: the list or the settings can't be read, or both are standard input
abbrev pub StopsUnread : Contents → Line → Text → ReadFailure → Type 0
StopsUnread gives line name failure =
    (IsNamed line name × CannotRead gives name failure) ⊎ ((is_twice line ≡ true) × (name ≡ line.file.now) × (failure ≡ Twice))

-- or the list is too long, a run over an empty text is refused, as by settings that aren't any, or memory is refused
abbrev pub StopsRefused : Contents → Line → AskedLanguage → Refused → Type 0
StopsRefused gives line asked refused =
    ((list : List ℕ) × Holds gives line.file.now list × (max_bytes < length list) × (refused ≡ at_no_place TooLong))
    ⊎ ((settings : List ℕ) × HasSettings gives line settings × AnswersBytes line.command asked [] settings (Err refused))
    ⊎ (refused ≡ no_memory)

abbrev pub StopsList : Contents → Line → AskedLanguage → Stop → Type 0
StopsList gives line asked (Unread name failure) = StopsUnread gives line name.now failure
StopsList gives line asked (Refuses refused) = StopsRefused gives line asked refused
