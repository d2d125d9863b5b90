-- A run of a command: what was read, what was written, and what the answer says of both.
use Rattle.std.specs.Prelude.{◌≡◌, ◌≢◌, ◌≤◌, ℕ, List, Bool, true, false, length, Option, IfSome, IsSome, Result, Ok, Err, ◌⊎◌}
use Rattle.std.specs.Str.{IsUtf8}
use Rattle.std.specs.Io.KnownBytes.{Appends, Keeps}
use Rattle.source_text.specs.Source.{IsRefusal, max_bytes}
use Rattle.source_text.specs.Writing.{AppendsBeginning}
use Rattle.source_text.specs.declared.fault.Fault.{Fault}
use Rattle.source_text.specs.declared.fault.Fault.TheVariants.{NotUtf8, TooLong, OutOfMemory, ReadFailed, WriteFailed, BadSettings, BadTable, UnwrapFailed, FormatFailed}
use Rattle.commands.specs.declared.command.Command.{Command}
use Rattle.commands.specs.declared.command.Command.TheVariants.{Same}
use Rattle.commands.specs.declared.language_choice.LanguageChoice.{LanguageChoice}
use Rattle.commands.specs.declared.hint.Hint.{Hint}
use Rattle.commands.specs.declared.hint.Hint.TheVariants.{Nothing}
use Rattle.commands.specs.declared.refused.Refused.{Refused}
use Rattle.commands.specs.Refused.{place_of}
use Rattle.language.specs.declared.Language.{Language}
use Rattle.tree.specs.Tree.{Tree as SyntaxTree}
use Rattle.tree.specs.declared.kind.Pair.{Pair}
use Rattle.rules.specs.Reports.{Report}
use Rattle.rules.specs.Rules.{View}
use Rattle.lint.specs.Languages.{asked_language}
use Rattle.lint.specs.ReadScripts.{IsReading, RefusesReading}
use Rattle.lint.specs.Hints.{IsHint}
use Rattle.lint.specs.Outputs.{second_limit, HasSettings, IsLanguage, IsSecond, IsOutput, CommandRefuses, RefusesSettings}

-- the bytes are source text: UTF-8, and not too long
abbrev pub IsSource : List ℕ → Type 0
IsSource text = IsUtf8 text × (length text ≤ max_bytes)

-- why a text is refused in a language: it is source text that is refused, or it is none
abbrev pub RefusesText : Language → List ℕ → Fault → Type 0
RefusesText language text (NotUtf8 at) = IsRefusal text (NotUtf8 at)
RefusesText language text TooLong = IsRefusal text TooLong
RefusesText language text fault = IsSource text × RefusesReading language text fault

-- ---- the devices

-- What is seen of the three devices: the bytes that each reader has to give, the bytes that the writer took before and after, where
-- they tell them, and which of them has failed.
pub record Seen : Type 0 where
  pub given : Option (List ℕ)
  pub second : Option (List ℕ)
  pub before : Option (List ℕ)
  pub after : Option (List ℕ)
  pub reader_failed : Bool
  pub second_failed : Bool
  pub writer_failed : Bool

abbrev pub NoneFailed : Seen → Type 0
NoneFailed seen = (seen.reader_failed ≡ false) × (seen.second_failed ≡ false) × (seen.writer_failed ≡ false)

-- the second reader of a command with settings has failed, and no other device
abbrev pub SettingsUnread : Command → Seen → Type 0
SettingsUnread command seen = HasSettings command × (seen.reader_failed ≡ false) × (seen.second_failed ≡ true) × (seen.writer_failed ≡ false)

abbrev pub NothingWritten : Seen → Type 0
NothingWritten seen = Keeps seen.before seen.after

-- the text is all that the reader has to give, where it tells its bytes
abbrev pub IsGiven : Option (List ℕ) → List ℕ → Type 0
IsGiven given text = IfSome given (λ bytes. text ≡ bytes)

-- ---- what was read

-- The first reader gave the text of a script of the language, which derives this tree with these pairs and no other.
pub record ReadsScript (language : Language) (given : Option (List ℕ)) : Type 0 where
  pub text : List ℕ
  pub is_given : IsGiven given text
  pub source : IsSource text
  pub tree : SyntaxTree
  pub pairs : List Pair
  pub reading : IsReading language text tree pairs

-- That script was read, and so much of the second file as the command takes.
pub record ReadsBoth (language : Language) (command : Command) (given given_second : Option (List ℕ)) : Type 0 where
  pub script : ReadsScript language given
  pub second : List ℕ
  pub is_second : IsSecond command given_second second

-- ---- the run

-- a command's output for what was read, in the language that is asked for and that settings leave
pub record HasOutput (finds : View → List Report) (command : Command) (choice : LanguageChoice) (given given_second : Option (List ℕ)) (output : List ℕ) (status : ℕ) : Type 0 where
  pub language : Language
  pub read : ReadsBoth language command given given_second
  pub is_language : IsLanguage command choice read.second language
  pub is_output : IsOutput finds language command read.script.text read.script.tree read.script.pairs read.second output status

-- the whole output was written
abbrev pub WritesOutput : (View → List Report) → Command → LanguageChoice → Seen → ℕ → Type 0
WritesOutput finds command choice seen status = (output : List ℕ) × HasOutput finds command choice seen.given seen.second output status × Appends seen.before seen.after output

-- a beginning of the output was written
abbrev pub BeginsOutput : (View → List Report) → Command → LanguageChoice → Seen → Type 0
BeginsOutput finds command choice seen =
    (output : List ℕ) × (status : ℕ) × HasOutput finds command choice seen.given seen.second output status × AppendsBeginning seen.before seen.after output

-- one reader failed: the first, or the second, where the command reads it, and the text is a script in the language that is asked for
abbrev pub FailsToRead : Command → LanguageChoice → Seen → Type 0
FailsToRead command choice seen =
    ((seen.reader_failed ≡ true) × (seen.second_failed ≡ false))
    ⊎ ((seen.reader_failed ≡ false) × (seen.second_failed ≡ true) × IsSome (second_limit command) × ReadsScript (asked_language choice) seen.given)

-- a script that was read is refused by its command, for its table or for what it would write
abbrev pub RefusesAfter : Command → LanguageChoice → Seen → Fault → Type 0
RefusesAfter command choice seen fault =
    (read : ReadsBoth (asked_language choice) command seen.given seen.second) × CommandRefuses command read.script.text read.script.tree read.script.pairs read.second fault

-- the settings for a script are refused, at this place: it is one in the language that is asked for
abbrev pub RefusesSettingsAfter : Command → LanguageChoice → Seen → ℕ × ℕ → Type 0
RefusesSettingsAfter command choice seen place =
    (read : ReadsBoth (asked_language choice) command seen.given seen.second) × HasSettings command × RefusesSettings choice read.second place

-- the settings of a command were read, and are refused
abbrev pub SettingsRefused : Command → LanguageChoice → Seen → Type 0
SettingsRefused command choice seen =
    HasSettings command × NoneFailed seen
    × ((second : List ℕ) × IsSecond command seen.second second × ((place : ℕ × ℕ) × RefusesSettings choice second place))

-- the language in which the text of the first file is read, and the devices that failed before: the command's language, and none; but the one that is asked
-- for where settings, which are read before the text, can't be read or are refused
abbrev pub IsTried : Command → LanguageChoice → Seen → Language → Type 0
IsTried command choice seen language =
    (NoneFailed seen × ((second : List ℕ) × IsSecond command seen.second second × IsLanguage command choice second language))
    ⊎ ((SettingsUnread command seen ⊎ SettingsRefused command choice seen) × (language ≡ asked_language choice))

-- the bytes of the first file are no source text
abbrev pub RefusesSource : Seen → Fault → Type 0
RefusesSource seen fault = (text : List ℕ) × IsGiven seen.given text × IsRefusal text fault

-- they are source text that is refused in the language in which it is read, at this place and with this hint
abbrev pub RefusesFirst : Command → LanguageChoice → Seen → Fault → ℕ × ℕ → Hint → Type 0
RefusesFirst command choice seen fault place hint =
    (text : List ℕ) × IsGiven seen.given text × IsSource text
    × ((language : Language) × IsTried command choice seen language × RefusesReading language text fault × IsHint language text fault hint)
    × (place ≡ place_of text fault)

-- no place is named, and there is no hint
abbrev pub IsBare : ℕ × ℕ → Hint → Type 0
IsBare place hint = (place ≡ (0, 0)) × (hint ≡ Nothing)

-- a refusal by its fault, with the line and the column of its place, and its hint
abbrev pub Refuses : (View → List Report) → Command → LanguageChoice → Seen → Fault → ℕ × ℕ → Hint → Type 0
Refuses finds command choice seen ReadFailed place hint = (seen.writer_failed ≡ false) × NothingWritten seen × FailsToRead command choice seen × IsBare place hint
Refuses finds command choice seen WriteFailed place hint =
    (seen.reader_failed ≡ false) × (seen.second_failed ≡ false) × (seen.writer_failed ≡ true) × BeginsOutput finds command choice seen × IsBare place hint
Refuses finds command choice seen OutOfMemory place hint = (NoneFailed seen ⊎ SettingsUnread command seen) × NothingWritten seen × IsBare place hint
Refuses finds command choice seen BadSettings place hint = NoneFailed seen × NothingWritten seen × RefusesSettingsAfter command choice seen place × (hint ≡ Nothing)
Refuses finds command choice seen (BadTable row why) place hint = NoneFailed seen × NothingWritten seen × RefusesAfter command choice seen (BadTable row why) × IsBare place hint
Refuses finds command choice seen UnwrapFailed place hint = NoneFailed seen × NothingWritten seen × RefusesAfter command choice seen UnwrapFailed × IsBare place hint
Refuses finds command choice seen FormatFailed place hint = NoneFailed seen × NothingWritten seen × RefusesAfter command choice seen FormatFailed × IsBare place hint
Refuses finds command choice seen (NotUtf8 at) place hint = NoneFailed seen × NothingWritten seen × RefusesSource seen (NotUtf8 at) × IsBare place hint
Refuses finds command choice seen TooLong place hint = NoneFailed seen × NothingWritten seen × (RefusesSource seen TooLong ⊎ RefusesAfter command choice seen TooLong) × IsBare place hint
Refuses finds command choice seen fault place hint = NothingWritten seen × RefusesFirst command choice seen fault place hint

-- `same` refuses its second script: the text of the second file is refused in the language of the first, at this place and with this hint
abbrev pub RefusesSecond : Command → LanguageChoice → Seen → Fault → ℕ × ℕ → Hint → Type 0
RefusesSecond command choice seen fault place hint =
    (command ≡ Same) × (fault ≢ OutOfMemory) × NoneFailed seen × NothingWritten seen
    × ((read : ReadsBoth (asked_language choice) command seen.given seen.second)
    × RefusesText (asked_language choice) read.second fault × (place ≡ place_of read.second fault) × IsHint (asked_language choice) read.second fault hint)

-- a refusal, of the second script or not
abbrev pub RefusesIn : Bool → (View → List Report) → Command → LanguageChoice → Seen → Fault → ℕ × ℕ → Hint → Type 0
RefusesIn true finds command choice seen fault place hint = RefusesSecond command choice seen fault place hint
RefusesIn false finds command choice seen fault place hint = Refuses finds command choice seen fault place hint

-- a run: the whole output and its status, or a refusal
abbrev pub Runs : (View → List Report) → Command → LanguageChoice → Seen → Result ℕ Refused → Type 0
Runs finds command choice seen (Ok status) = NoneFailed seen × WritesOutput finds command choice seen status
Runs finds command choice seen (Err refused) = RefusesIn refused.in_second finds command choice seen refused.fault (refused.line, refused.column) refused.hint
