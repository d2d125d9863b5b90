-- The steps of a run, from what was read to what is written.
use Rattle.std.specs.Prelude.{◌≡◌, ◌≢◌, ◌⊎◌, ◌≤◌, ◌+◌, ℕ, List, [], Bool, true, false, length, take, Option, Some, IfSome, IsSome, Result, Ok, Err, string_bytes}
use Rattle.std.specs.Str.{IsUtf8}
use Rattle.source_text.specs.Source.{max_bytes}
use Rattle.source_text.specs.declared.fault.Fault.{Fault}
use Rattle.source_text.specs.declared.fault.Fault.TheVariants.{OutOfMemory, ReadFailed, BadSettings, BadTable}
use Rattle.source_text.specs.declared.fault.Reason.TheVariants as reason
use Rattle.commands.specs.declared.command.Command.{Command}
use Rattle.commands.specs.declared.command.Command.TheVariants.{Check, Verify, Same}
use Rattle.commands.specs.declared.command.ReportForm.{ReportForm}
use Rattle.commands.specs.declared.command.ReportForm.TheVariants.{Places, Spans}
use Rattle.commands.specs.declared.language_choice.LanguageChoice.{LanguageChoice}
use Rattle.commands.specs.declared.refused.Refused.{Refused}
use Rattle.commands.specs.declared.hint.Hint.TheVariants.{Nothing}
use Rattle.commands.specs.Refused.{at_no_place, no_memory, place_of}
use Rattle.tree.specs.Tree.{Tree as SyntaxTree}
use Rattle.tree.specs.declared.kind.Pair.{Pair}
use Rattle.rules.specs.Reports.{Report}
use Rattle.rules.specs.Rules.{View}
use Rattle.rules.specs.Settings.{Settings}
use Rattle.rules.specs.Toml.{settings_of_text}
use Rattle.rules.specs.Lines.{report_lines, report_status, span_lines}
use Rattle.language.specs.declared.Language.{Language}
use Rattle.language.specs.Layout.{fixed_text}
use Rattle.paren_planner.specs.Plans.{AreWraps}
use Rattle.cost_table.specs.Tables.{table_of}
use Rattle.cost_table.specs.declared.table.CostTable.{CostTable}
use Rattle.cost_certificate.specs.Forms.{short, table_text, IsTable, IsBadLine}
use Rattle.lint.specs.declared.answer.Answer.{Answer}
use Rattle.lint.specs.declared.answer.Answer.TheVariants.{Text, Unchanged, Fixed, Table}
use Rattle.lint.specs.declared.check_command.Checked.{Checked}
use Rattle.lint.specs.Languages.{asked_language, language_of}
use Rattle.lint.specs.ReadScripts.{IsReading, IsScript, RefusesReading}
use Rattle.lint.specs.Reported.{Reports}
use Rattle.lint.specs.Outputs.{Compares, Contradicts, second_limit, IsSecond, IsOutput, CommandRefuses, RefusesSettingsText}
use Rattle.lint.specs.Hints.{IsHint}
use Rattle.lint.specs.Run.{Seen, NothingWritten, HasOutput, RefusesIn, RefusesText}

-- what an answer writes, and its status
abbrev pub output_of : Answer → List ℕ
output_of (Text text status) = string_bytes text
output_of (Unchanged text) = text.now
output_of (Fixed parsed wraps) = fixed_text parsed.program
output_of (Table parsed plan) = table_text short (table_of plan.table.rows.items plan.table.total)

abbrev pub status_of : Answer → ℕ
status_of (Text text status) = status
status_of (Unchanged text) = 0
status_of (Fixed parsed wraps) = 0
status_of (Table parsed plan) = 0

-- what is made as it is written: a script's text by which nodes are wrapped, and a table that has no more rows than a text may have bytes
abbrev pub IsWritable : Answer → Type 0
IsWritable (Text text status) = Unit {0}
IsWritable (Unchanged text) = Unit {0}
IsWritable (Fixed parsed wraps) = IsScript parsed.program parsed.pairs.items × AreWraps parsed.program wraps.flags.items
IsWritable (Table parsed plan) = length plan.table.rows.items ≤ 16777216

-- the refusal of settings for their text, at its place
abbrev pub IsSettingsRefusal : List ℕ → Refused → Type 0
IsSettingsRefusal bytes refused =
    (refused.fault ≡ BadSettings) × (refused.in_second ≡ false) × (refused.hint ≡ Nothing) × RefusesSettingsText bytes (refused.line, refused.column)

-- why bytes give no settings
abbrev pub RefusesSettingsBy : List ℕ → Refused → Type 0
RefusesSettingsBy bytes refused = (refused ≡ no_memory) ⊎ IsSettingsRefusal bytes refused

-- the lines of reports under settings, in a form
abbrev pub lines_in : ReportForm → Settings → List ℕ → List Report → List ℕ
lines_in Places settings text reports = report_lines settings text reports
lines_in Spans settings text reports = span_lines reports

-- The lines of a script's reports under settings, in a form, and the status.
pub record ReportsLines (finds : View → List Report) (form : ReportForm) (language : Language) (text : List ℕ) (n : SyntaxTree) (P : List Pair) (settings : Settings) (answer : Answer) : Type 0 where
  pub reports : List Report
  pub are_reports : Reports finds language text n P settings reports
  pub are_lines : output_of answer ≡ lines_in form settings text reports
  pub is_status : status_of answer ≡ report_status settings reports

-- why no settings are read, by what the second reader has to give
abbrev pub LacksSettings : Option (List ℕ) → Refused → Bool → Type 0
LacksSettings given refused failed =
    ((failed ≡ true) × (refused ≡ at_no_place ReadFailed))
    ⊎ ((failed ≡ false) × ((refused ≡ no_memory) ⊎ ((second : List ℕ) × IsSecond (Check Places) given second × IsSettingsRefusal second refused)))

-- settings, from what the second reader has to give
abbrev pub ReadsSettings : Option (List ℕ) → Result Settings Refused → Bool → Type 0
ReadsSettings given (Ok settings) failed = (failed ≡ false) × ((second : List ℕ) × IsSecond (Check Places) given second × IsUtf8 second × (settings_of_text second ≡ Some settings))
ReadsSettings given (Err refused) failed = LacksSettings given refused failed

-- why there are no settings, or they contradict what a call asks for, by what the second reader has to give
abbrev pub LacksLanguage : LanguageChoice → Option (List ℕ) → Refused → Bool → Type 0
LacksLanguage choice given refused failed =
    LacksSettings given refused failed
    ⊎ ((failed ≡ false) × (refused ≡ at_no_place BadSettings) × ((second : List ℕ) × IsSecond (Check Places) given second × Contradicts choice second))

-- settings, and the language that a call asks for and that they leave
abbrev pub ReadsLanguage : LanguageChoice → Option (List ℕ) → Result Checked Refused → Bool → Type 0
ReadsLanguage choice given (Ok checked) failed =
    ReadsSettings given (Ok checked.settings) failed × (language_of choice checked.settings.languages ≡ Some checked.language)
ReadsLanguage choice given (Err refused) failed = LacksLanguage choice given refused failed

-- the refusal of a command with settings where there are none: at once that memory was refused, if it was; else that of the text, which is no script in the language
-- that is asked for, or that of the settings, of a script
abbrev pub RefusesChecked : LanguageChoice → List ℕ → Refused → Refused → Type 0
RefusesChecked choice text of_settings refused =
    ((refused ≡ of_settings) × ((of_settings.fault ≡ OutOfMemory) ⊎ ((n : SyntaxTree) × (P : List Pair) × IsReading (asked_language choice) text n P)))
    ⊎ ((of_settings.fault ≢ OutOfMemory) × (refused.in_second ≡ false) × RefusesReading (asked_language choice) text refused.fault
    × ((refused.line, refused.column) ≡ place_of text refused.fault) × IsHint (asked_language choice) text refused.fault refused.hint)

-- a table, from what the second reader has to give
abbrev pub ReadsTable : Option (List ℕ) → Result CostTable Fault → Bool → Type 0
ReadsTable given (Ok table) failed = (failed ≡ false) × ((second : List ℕ) × IsSecond Verify given second × IsTable second (table_of table.rows.items table.total))
ReadsTable given (Err ReadFailed) failed = failed ≡ true
ReadsTable given (Err OutOfMemory) failed = failed ≡ false
ReadsTable given (Err (BadTable row why)) failed = (failed ≡ false) × (why ≡ reason.Form) × ((second : List ℕ) × IsSecond Verify given second × IsBadLine second row)
ReadsTable given (Err fault) failed = ⊥

-- what a command answers of a script of a language, by what its second reader has to give
abbrev pub Answers : (View → List Report) → Language → Command → List ℕ → SyntaxTree → List Pair → Option (List ℕ) → Result Answer Fault → Bool → Type 0
Answers finds language command text n P given (Ok answer) failed =
    (failed ≡ false) × ((second : List ℕ) × IsSecond command given second × IsOutput finds language command text n P second (output_of answer) (status_of answer))
Answers finds language command text n P given (Err ReadFailed) failed = (failed ≡ true) × IsSome (second_limit command)
Answers finds language command text n P given (Err OutOfMemory) failed = failed ≡ false
Answers finds language command text n P given (Err fault) failed = (failed ≡ false) × ((second : List ℕ) × IsSecond command given second × CommandRefuses command text n P second fault)

-- what a command that reads no second file answers of a script of a language
abbrev pub AnswersAlone : Language → Command → List ℕ → SyntaxTree → List Pair → Result Answer Fault → Type 0
AnswersAlone language command text n P result = (finds : View → List Report) (given : Option (List ℕ)) → Answers finds language command text n P given result false

-- a refusal as one of the second script; that memory is refused speaks of none
abbrev pub IsOfOther : Refused → Refused → Type 0
IsOfOther refused result =
    ((refused.fault ≡ OutOfMemory) × (result ≡ no_memory))
    ⊎ ((refused.fault ≢ OutOfMemory) × (result ≡ record { fault = refused.fault; in_second = true; line = refused.line; column = refused.column; hint = refused.hint }))

-- these bytes are refused as the text of the second script, of a language
abbrev pub RefusesAsSecond : Language → List ℕ → Refused → Type 0
RefusesAsSecond language bytes refused =
    (refused.in_second ≡ true) × (refused.fault ≢ OutOfMemory) × RefusesText language bytes refused.fault
    × ((refused.line, refused.column) ≡ place_of bytes refused.fault) × IsHint language bytes refused.fault refused.hint

-- why the bytes of the second file are no script to compare with
abbrev pub RefusesOther : Language → List ℕ → Refused → Type 0
RefusesOther language bytes refused = (refused ≡ no_memory) ⊎ RefusesAsSecond language bytes refused

-- what `same` answers of a script of a language, by what its second reader has to give
abbrev pub AnswersSame : Language → SyntaxTree → Option (List ℕ) → Result Answer Refused → Bool → Type 0
AnswersSame language n given (Ok answer) failed = (failed ≡ false) × ((second : List ℕ) × IsSecond Same given second × Compares language n second (status_of answer) × (output_of answer ≡ []))
AnswersSame language n given (Err refused) failed =
    ((failed ≡ true) × (refused ≡ at_no_place ReadFailed))
    ⊎ ((failed ≡ false) × ((refused ≡ no_memory) ⊎ ((second : List ℕ) × IsSecond Same given second × RefusesAsSecond language second refused)))

-- bytes that were read up to one byte past the longest text
abbrev pub IsRead : Option (List ℕ) → List ℕ → Type 0
IsRead given bytes = IfSome given (λ xs. bytes ≡ take (max_bytes + 1) xs)

-- Before anything is written: the bytes were read of the first reader, and the second one has or hasn't failed.
pub record IsBefore (bytes : List ℕ) (second : Option (List ℕ)) (failed : Bool) (seen : Seen) : Type 0 where
  pub read : IsRead seen.given bytes
  pub of_second : seen.second ≡ second
  pub of_failed : seen.second_failed ≡ failed
  pub reader : seen.reader_failed ≡ false
  pub writer : seen.writer_failed ≡ false
  pub kept : NothingWritten seen

-- what a command answers for the bytes of the first file, before anything is written
abbrev pub AnswersBytes : (View → List Report) → Command → LanguageChoice → List ℕ → Option (List ℕ) → Result Answer Refused → Bool → Type 0
AnswersBytes finds command choice bytes second (Ok answer) failed =
    (failed ≡ false) × ((given : Option (List ℕ)) → IsRead given bytes → HasOutput finds command choice given second (output_of answer) (status_of answer))
AnswersBytes finds command choice bytes second (Err refused) failed =
    (seen : Seen) → IsBefore bytes second failed seen
    → RefusesIn refused.in_second finds command choice seen refused.fault (refused.line, refused.column) refused.hint
