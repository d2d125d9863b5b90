-- A run of a command, by how its call says the language: as settings and the call leave it, or by trying each. Then it is the run in the first language that
-- accepts the text.
use Rattle.std.specs.Prelude.{◌≡◌, ◌≢◌, ◌⊎◌, ℕ, List, Bool, true, false, Option, IsSome, Result, Ok, Err}
use Rattle.std.specs.Io.KnownBytes.{Appends}
use Rattle.source_text.specs.Writing.{AppendsBeginning}
use Rattle.source_text.specs.declared.fault.Fault.{Fault}
use Rattle.source_text.specs.declared.fault.Fault.TheVariants.{NotUtf8, TooLong, OutOfMemory, ReadFailed, WriteFailed, BadSettings, BadTable, UnwrapFailed, FormatFailed}
use Rattle.commands.specs.declared.asked_language.AskedLanguage.{AskedLanguage}
use Rattle.commands.specs.declared.asked_language.AskedLanguage.TheVariants.{Said, Any}
use Rattle.commands.specs.declared.command.Command.{Command}
use Rattle.commands.specs.declared.command.Command.TheVariants.{Same}
use Rattle.commands.specs.declared.hint.Hint.{Hint}
use Rattle.commands.specs.declared.hint.Hint.TheVariants.{Nothing}
use Rattle.commands.specs.declared.refused.Refused.{Refused}
use Rattle.commands.specs.Refused.{place_of}
use Rattle.language.specs.declared.Language.{Language}
use Rattle.rules.specs.Reports.{Report}
use Rattle.rules.specs.Rules.{View}
use Rattle.lint.specs.AnyLanguage.{IsFirst, RefusesEach, hint_in}
use Rattle.lint.specs.Hints.{IsHint}
use Rattle.lint.specs.Outputs.{second_limit, HasSettings, IsOutput, CommandRefuses, RefusesSettingsText}
use Rattle.lint.specs.Run.{IsBare, IsGiven, IsSource, NoneFailed, NothingWritten, ReadsBoth, ReadsScript, RefusesSource, RefusesText, Runs, Seen}

-- The first reader gave the text of a script of the first language that accepts it, and so much of the second file was read as the command takes.
pub record ReadsFirst (command : Command) (given given_second : Option (List ℕ)) : Type 0 where
  pub language : Language
  pub read : ReadsBoth language command given given_second
  pub is_first : IsFirst read.script.text language

-- a command's output for what was read, in that language; settings say none
abbrev pub HasFirstOutput : (View → List Report) → Command → (given given_second : Option (List ℕ)) → List ℕ → ℕ → Type 0
HasFirstOutput finds command given given_second output status =
    (first : ReadsFirst command given given_second)
    × IsOutput finds first.language command first.read.script.text first.read.script.tree first.read.script.pairs first.read.second output status

-- one reader failed: the first, or the second, where the command reads it, and the text is a script of that language
abbrev pub FailsToReadAny : Command → Seen → Type 0
FailsToReadAny command seen =
    ((seen.reader_failed ≡ true) × (seen.second_failed ≡ false))
    ⊎ ((seen.reader_failed ≡ false) × (seen.second_failed ≡ true) × IsSome (second_limit command)
    × ((language : Language) × (script : ReadsScript language seen.given) × IsFirst script.text language))

-- a script that was read is refused by its command
abbrev pub RefusesAfterAny : Command → Seen → Fault → Type 0
RefusesAfterAny command seen fault =
    (first : ReadsFirst command seen.given seen.second)
    × CommandRefuses command first.read.script.text first.read.script.tree first.read.script.pairs first.read.second fault

-- the text of a command's settings is refused, of a script that was read
abbrev pub RefusesSettingsAny : Command → Seen → ℕ × ℕ → Type 0
RefusesSettingsAny command seen place =
    (first : ReadsFirst command seen.given seen.second) × HasSettings command × RefusesSettingsText first.read.second place

-- source text is refused in each language, by the refusal that got furthest, at its place; the hint says its language
abbrev pub RefusesFirstAny : Seen → Fault → ℕ × ℕ → Hint → Type 0
RefusesFirstAny seen fault place hint =
    (text : List ℕ) × IsGiven seen.given text × IsSource text
    × ((language : Language) × RefusesEach text (record { language = language; fault = fault }) × (hint ≡ hint_in language)) × (place ≡ place_of text fault)

-- a refusal by its fault, with the line and the column of its place, and its hint
abbrev pub RefusesAny : (View → List Report) → Command → Seen → Fault → ℕ × ℕ → Hint → Type 0
RefusesAny finds command seen ReadFailed place hint = (seen.writer_failed ≡ false) × NothingWritten seen × FailsToReadAny command seen × IsBare place hint
RefusesAny finds command seen WriteFailed place hint =
    (seen.reader_failed ≡ false) × (seen.second_failed ≡ false) × (seen.writer_failed ≡ true)
    × ((output : List ℕ) × (status : ℕ) × HasFirstOutput finds command seen.given seen.second output status × AppendsBeginning seen.before seen.after output)
    × IsBare place hint
RefusesAny finds command seen OutOfMemory place hint = NoneFailed seen × NothingWritten seen × IsBare place hint
RefusesAny finds command seen BadSettings place hint = NoneFailed seen × NothingWritten seen × RefusesSettingsAny command seen place × (hint ≡ Nothing)
RefusesAny finds command seen (BadTable row why) place hint = NoneFailed seen × NothingWritten seen × RefusesAfterAny command seen (BadTable row why) × IsBare place hint
RefusesAny finds command seen UnwrapFailed place hint = NoneFailed seen × NothingWritten seen × RefusesAfterAny command seen UnwrapFailed × IsBare place hint
RefusesAny finds command seen FormatFailed place hint = NoneFailed seen × NothingWritten seen × RefusesAfterAny command seen FormatFailed × IsBare place hint
RefusesAny finds command seen (NotUtf8 at) place hint = NoneFailed seen × NothingWritten seen × RefusesSource seen (NotUtf8 at) × IsBare place hint
RefusesAny finds command seen TooLong place hint = NoneFailed seen × NothingWritten seen × (RefusesSource seen TooLong ⊎ RefusesAfterAny command seen TooLong) × IsBare place hint
RefusesAny finds command seen fault place hint = NoneFailed seen × NothingWritten seen × RefusesFirstAny seen fault place hint

-- `same` refuses its second script: the text of the second file is refused in the language of the first
abbrev pub RefusesSecondAny : Command → Seen → Fault → ℕ × ℕ → Hint → Type 0
RefusesSecondAny command seen fault place hint =
    (command ≡ Same) × (fault ≢ OutOfMemory) × NoneFailed seen × NothingWritten seen
    × ((first : ReadsFirst command seen.given seen.second)
    × RefusesText first.language first.read.second fault × (place ≡ place_of first.read.second fault) × IsHint first.language first.read.second fault hint)

-- a refusal, of the second script or not
abbrev pub RefusesAnyIn : Bool → (View → List Report) → Command → Seen → Fault → ℕ × ℕ → Hint → Type 0
RefusesAnyIn true finds command seen fault place hint = RefusesSecondAny command seen fault place hint
RefusesAnyIn false finds command seen fault place hint = RefusesAny finds command seen fault place hint

-- a run where each language is tried
abbrev pub RunsAny : (View → List Report) → Command → Seen → Result ℕ Refused → Type 0
RunsAny finds command seen (Ok status) =
    NoneFailed seen × ((output : List ℕ) × HasFirstOutput finds command seen.given seen.second output status × Appends seen.before seen.after output)
RunsAny finds command seen (Err refused) = RefusesAnyIn refused.in_second finds command seen refused.fault (refused.line, refused.column) refused.hint

-- a run, by how its call says the language; a proof looks into it only where it asks to
unfoldable pub RunsAsked : (View → List Report) → Command → AskedLanguage → Seen → Result ℕ Refused → Type 0
RunsAsked finds command (Said choice) seen result = Runs finds command choice seen result
RunsAsked finds command Any seen result = RunsAny finds command seen result
