-- What each command writes of a script, its exit status, and how it refuses one.
use Rattle.std.specs.Prelude.{◌≡◌, ◌≤◌, ◌+◌, ℕ, zero, suc, List, [], ◌∷◌, ◌++◌, length, take, codes, Option, Some, None, IfSome, ◌⊎◌}
use Rattle.std.specs.Fmt.{decimal}
use Rattle.std.specs.Str.{IsUtf8}
use Rattle.source_text.specs.Lines.{line_column}
use Rattle.source_text.specs.Source.{IsRefusal, max_bytes}
use Rattle.source_text.specs.declared.fault.Fault.{Fault}
use Rattle.source_text.specs.declared.fault.Fault.TheVariants.{NotUtf8, TooLong, BadTable, UnwrapFailed, FormatFailed}
use Rattle.source_text.specs.declared.fault.Reason.{Reason}
use Rattle.source_text.specs.declared.fault.Reason.TheVariants as reason
use Rattle.commands.specs.declared.command.Command.{Command}
use Rattle.commands.specs.declared.command.Command.TheVariants.{Check, Tree, Fix, Unwrap, Mend, Format, Cost, Verify, Same}
use Rattle.commands.specs.declared.command.ReportForm.TheVariants.{Places, Spans}
use Rattle.tree.specs.declared.kind.Pair.{Pair}
use Rattle.tree.specs.Tree.{Tree as SyntaxTree, SameTree}
use Rattle.language.specs.declared.Language.{Language}
use Rattle.language.specs.Languages.{DerivesIn}
use Rattle.language.specs.Claims.{Table, Sound}
use Rattle.estree_json.specs.Json.{json_text}
use Rattle.cost_table.specs.Tables.{MeetsBounds}
use Rattle.language.specs.ExactIn.{ExactIn}
use Rattle.rules.specs.Reports.{Report}
use Rattle.rules.specs.Refusals.{GivesNone, RefusesToml}
use Rattle.rules.specs.Settings.{Settings}
use Rattle.rules.specs.declared.settings_error.SettingsError.TheVariants.{NotToml}
use Rattle.rules.specs.Toml.{settings_of_text}
use Rattle.rules.specs.Rules.{View}
use Rattle.rules.specs.Lines.{report_lines, report_status, span_lines}
use Rattle.cost_certificate.specs.Forms.{IsTable, IsBadLine, short, table_text}
use Rattle.cost_certificate.specs.Faults.{first_fault}
use Rattle.commands.specs.declared.language_choice.LanguageChoice.{LanguageChoice}
use Rattle.lint.specs.Languages.{asked_language, language_of}
use Rattle.lint.specs.ReadScripts.{IsReading}
use Rattle.lint.specs.Fixes.{Fixes}
use Rattle.lint.specs.Reported.{Reports}
use Rattle.lint.specs.Unwraps.{Unwraps, IsUnwrapped, RefusesScript}
use Rattle.lint.specs.Formats.{FormatsBy, RefusesFormat, WritesFormatted}
use Rattle.lint.specs.Mendings.{Mended}

-- ---- check

-- A line for each report under the settings of the second file; the status says whether there is one that is no warning.
pub record Checks (finds : View → List Report) (language : Language) (text : List ℕ) (n : SyntaxTree) (P : List Pair) (second output : List ℕ) (status : ℕ) : Type 0 where
  pub settings : Settings
  pub utf8 : IsUtf8 second
  pub are_settings : settings_of_text second ≡ Some settings
  pub reports : List Report
  pub are_reports : Reports finds language text n P settings reports
  pub are_lines : output ≡ report_lines settings text reports
  pub is_status : status ≡ report_status settings reports

-- Of the reports whose lines `check` writes with places, and with its status, the lines with their spans.
pub record ChecksSpans (finds : View → List Report) (language : Language) (text : List ℕ) (n : SyntaxTree) (P : List Pair) (second output : List ℕ) (status : ℕ) : Type 0 where
  pub with_places : List ℕ
  pub checks : Checks finds language text n P second with_places status
  pub are_spans : output ≡ span_lines checks.reports

-- Settings are refused, at this line and column: where they are no UTF-8 behind the longest beginning that is, where they are no TOML at a
-- place of the text, and at none, both 0, where they are too long or are TOML that gives none.
abbrev pub RefusesSettingsText : List ℕ → ℕ × ℕ → Type 0
RefusesSettingsText second place =
    ((at : ℕ) × IsRefusal second (NotUtf8 at) × (place ≡ line_column (take at second) at))
    ⊎ ((IsUtf8 second × ((at : ℕ) × RefusesToml second (NotToml at) × (place ≡ line_column second at)))
    ⊎ ((place ≡ (0, 0)) × (IsRefusal second TooLong ⊎ (IsUtf8 second × GivesNone second))))

-- commands whose second file is settings
abbrev pub HasSettings : Command → Type 0
HasSettings (Check form) = Unit {0}
HasSettings Mend = Unit {0}
HasSettings other = ⊥

-- the settings of the text leave no language that a call asks for
abbrev pub Contradicts : LanguageChoice → List ℕ → Type 0
Contradicts choice second = IsUtf8 second × ((settings : Settings) × (settings_of_text second ≡ Some settings) × (language_of choice settings.languages ≡ None))

-- settings are refused for their text, or, at no place, since they contradict what a call asks for
abbrev pub RefusesSettings : LanguageChoice → List ℕ → ℕ × ℕ → Type 0
RefusesSettings choice second place = RefusesSettingsText second place ⊎ ((place ≡ (0, 0)) × Contradicts choice second)

-- the language is the first that is asked for and that the settings of the text leave
abbrev pub IsLeft : LanguageChoice → List ℕ → Language → Type 0
IsLeft choice second language = (settings : Settings) × (settings_of_text second ≡ Some settings) × (language_of choice settings.languages ≡ Some language)

-- the language of a command's script: the one that is asked for; where the command has settings, the first that is asked for and that they leave
abbrev pub IsLanguage : Command → LanguageChoice → List ℕ → Language → Type 0
IsLanguage (Check form) choice second language = IsLeft choice second language
IsLanguage Mend choice second language = IsLeft choice second language
IsLanguage other choice second language = language ≡ asked_language choice

-- ---- mend

-- Mended under the settings of the second file.
pub record MendsUnder (finds : View → List Report) (language : Language) (text second output : List ℕ) : Type 0 where
  pub settings : Settings
  pub utf8 : IsUtf8 second
  pub are_settings : settings_of_text second ≡ Some settings
  pub mended : Mended finds language settings text output

-- ---- tree, cost, verify

-- the JSON of the tree, and a line feed
abbrev pub tree_line : SyntaxTree → List ℕ
tree_line n = json_text n ++ 10 ∷ []

-- The text of the cost table: each cell meets its bound and is the least number of pairs of its node there; the total is the fewest.
pub record Costs (language : Language) (n : SyntaxTree) (output : List ℕ) : Type 0 where
  pub table : Table
  pub bounds : MeetsBounds table n
  pub exact : ExactIn language table n
  pub is_text : output ≡ table_text short table

-- `pairs P least T` and a line feed
abbrev pub pairs_line : ℕ → ℕ → List ℕ
pairs_line pairs least = codes "pairs " ++ decimal pairs ++ codes " least " ++ decimal least ++ 10 ∷ []

-- The second file is the text of a table that is sound for the script. The line has the number of the script's grouping pairs, and the
-- table's total: no text with the same tree has fewer pairs than that.
pub record Verifies (n : SyntaxTree) (P : List Pair) (second output : List ℕ) : Type 0 where
  pub table : Table
  pub is_table : IsTable second table
  pub sound : Sound table n
  pub least : (language : Language) (text : List ℕ) (m : SyntaxTree) (Q : List Pair) → SameTree m n → DerivesIn language text m Q → table.total ≤ length Q
  pub line : output ≡ pairs_line (length P) table.total

-- The second file is no table's text, and this is its first line, counted from 0, that no table's text has there; or it is that of a
-- table of which this is the first fault.
abbrev pub RefusesTable : SyntaxTree → List ℕ → ℕ → Reason → Type 0
RefusesTable n second row why = ((why ≡ reason.Form) × IsBadLine second row) ⊎ ((table : Table) × IsTable second table × (first_fault table n ≡ Some (row, why)))

-- ---- same

-- whether two trees are one, places aside: 0 where they are, 1 where they aren't
abbrev pub TellsSame : SyntaxTree → SyntaxTree → ℕ → Type 0
TellsSame m n zero = SameTree m n
TellsSame m n (suc zero) = SameTree m n → ⊥
TellsSame m n (suc (suc other)) = ⊥

-- The second file is the text of a script of the language, within the longest text, which derives one tree, and the status says whether that is this one.
pub record Compares (language : Language) (n : SyntaxTree) (second : List ℕ) (status : ℕ) : Type 0 where
  pub short : length second ≤ max_bytes
  pub tree : SyntaxTree
  pub pairs : List Pair
  pub reading : IsReading language second tree pairs
  pub told : TellsSame tree n status

-- ---- each command

-- the most bytes of its second file that a command takes; none where it reads no second file
abbrev pub second_limit : Command → Option ℕ
second_limit (Check form) = Some max_bytes
second_limit Mend = Some max_bytes
second_limit Verify = Some 2147483648
second_limit Same = Some max_bytes
second_limit other = None

-- what was read of a second file: all that its reader has to give, but no more than one byte past the limit
abbrev pub IsSecondTo : Option ℕ → Option (List ℕ) → List ℕ → Type 0
IsSecondTo None given second = second ≡ []
IsSecondTo (Some limit) given second = IfSome given (λ bytes. second ≡ take (limit + 1) bytes)

abbrev pub IsSecond : Command → Option (List ℕ) → List ℕ → Type 0
IsSecond command given second = IsSecondTo (second_limit command) given second

-- what a command writes of a script that a text derives in a language with these pairs, and its status; `finds` is what the boxed rules find in a view
abbrev pub IsOutput : (View → List Report) → Language → Command → List ℕ → SyntaxTree → List Pair → (second output : List ℕ) (status : ℕ) → Type 0
IsOutput finds language (Check Places) text n P second output status = Checks finds language text n P second output status
IsOutput finds language (Check Spans) text n P second output status = ChecksSpans finds language text n P second output status
IsOutput finds language Tree text n P second output status = (output ≡ tree_line n) × (status ≡ 0)
IsOutput finds language Fix text n P second output status = Fixes language text output × (status ≡ 0)
IsOutput finds language Unwrap text n P second output status = Unwraps language text output × IsUnwrapped language output × (status ≡ 0)
IsOutput finds language Mend text n P second output status = MendsUnder finds language text second output × (status ≡ 0)
IsOutput finds language (Format choice) text n P second output status =
    (formatted : List ℕ) × FormatsBy choice language text formatted × WritesFormatted choice.check text formatted output status
IsOutput finds language Cost text n P second output status = Costs language n output × (status ≡ 0)
IsOutput finds language Verify text n P second output status = Verifies n P second output × (status ≡ 0)
IsOutput finds language Same text n P second output status = Compares language n second status × (output ≡ [])

-- why what `unwrap` and `format` would write of a script is refused
abbrev pub RefusesRewriting : Command → List ℕ → SyntaxTree → List Pair → Fault → Type 0
RefusesRewriting Unwrap text n P fault = RefusesScript text n P fault
RefusesRewriting (Format choice) text n P fault = RefusesFormat choice.fewest text n P fault
RefusesRewriting command text n P fault = ⊥

-- why a command refuses a script that was read: its table is refused, or it isn't unwrapped or formatted
abbrev pub CommandRefuses : Command → List ℕ → SyntaxTree → List Pair → List ℕ → Fault → Type 0
CommandRefuses command text n P second (BadTable row why) = (command ≡ Verify) × RefusesTable n second row why
CommandRefuses command text n P second TooLong = RefusesRewriting command text n P TooLong
CommandRefuses command text n P second UnwrapFailed = RefusesRewriting command text n P UnwrapFailed
CommandRefuses command text n P second FormatFailed = RefusesRewriting command text n P FormatFailed
CommandRefuses command text n P second fault = ⊥
