-- The command line, by clap's own definitions.
use Rattle.std.specs.Prelude.{◌≡◌, ℕ, Bool, bytes_eq, codes, cond, false, true, List, Option, Some, None, is_some, option_map}
use Rattle.std.specs.Option.{option_map_or}
use Rattle.std.specs.Str.Parse.{digits_value, without_leading_plus}
use Rattle.clap.specs.Words.{App, Row, Rule, Text, first_of, new_app, new_rule, with_rule, with_subcommand}
use Rattle.clap.specs.Simple.{on_top, subcommand_of}
use Rattle.clap.specs.Faults.{fault_of, is_simple_and_free}
use Rattle.clap.specs.Takes.{takes}
use Rattle.clap.specs.ValueTests.{is_unsigned_in}
use Rattle.clap.specs.declared.builder.action.ArgAction.TheVariants.{SetTrue}
use Rattle.clap.specs.declared.builder.value_parser.ValueParser.TheVariants.{Unsigned}
use Rattle.clap.specs.declared.error.kind.ErrorKind.{ErrorKind}
use Rattle.clap.specs.declared.error.kind.ErrorKind.TheVariants.{DisplayHelp, DisplayVersion}
use Rattle.commands.specs.Commands.{default_format, word_of}
use Rattle.commands.specs.declared.command.Command.{Command}
use Rattle.commands.specs.declared.command.Command.TheVariants.{Check, Tree, Fix, Unwrap, Mend, Format, Cost, Verify, Same}
use Rattle.commands.specs.declared.command.FormatChoice.{FormatChoice}
use Rattle.commands.specs.declared.command.ReportForm.{ReportForm}
use Rattle.commands.specs.declared.command.ReportForm.TheVariants.{Places, Spans}
use Rattle.command_line.specs.AskedLanguage.{commas_or_all}
use Rattle.command_line.specs.declared.line.Line.{Line}

-- an argument that must stand there, by its id: FILE, TABLE and OTHER
abbrev pub required_rule : Text → Rule
required_rule id = record (new_rule id) { required = true; value_names = 1 }

-- `--settings FILE`
abbrev pub settings_rule : Rule
settings_rule = record (new_rule (codes "settings")) { long = Some (codes "settings"); value_names = 1 }

-- `--spans`
abbrev pub spans_rule : Rule
spans_rule = record (new_rule (codes "spans")) { long = Some (codes "spans"); action = Some SetTrue }

-- `--list`
abbrev pub list_rule : Rule
list_rule = record (new_rule (codes "list")) { long = Some (codes "list"); action = Some SetTrue }

-- `--edition YEAR`
abbrev pub edition_rule : Rule
edition_rule = record (new_rule (codes "edition")) { long = Some (codes "edition"); value_names = 1 }

-- `--module`
abbrev pub module_rule : Rule
module_rule = record (new_rule (codes "module")) { long = Some (codes "module"); action = Some SetTrue }

-- a flag, by its id
abbrev pub flag_rule : Text → Rule
flag_rule id = record (new_rule id) { long = Some id; action = Some SetTrue }

-- an option, by its id, with a number in a range
abbrev pub number_rule : Text → ℕ → ℕ → Rule
number_rule id least most = record (new_rule id) { long = Some id; value_names = 1; parser = Some (Unsigned least most) }

-- `--commas WHERE`
abbrev pub commas_rule : Rule
commas_rule = record (new_rule (codes "commas")) { long = Some (codes "commas"); value_names = 1 }

-- a command, by its word, with its FILE alone
abbrev pub lone_file_app : Text → App
lone_file_app word = with_rule (new_app word) (required_rule (codes "file"))

-- and with the words that say one language
abbrev pub said_app : Text → App
said_app word = with_rule (with_rule (lone_file_app word) edition_rule) module_rule

-- and with the language of scripts
abbrev pub file_app : Text → App
file_app word = with_rule (said_app word) (flag_rule (codes "any"))

-- and with settings
abbrev pub settled_app : Text → App
settled_app word = with_rule (file_app word) settings_rule

-- `check` with its settings and the form of its reports
abbrev pub reporting_app : App
reporting_app = with_rule (settled_app (codes "check")) spans_rule

-- `format` with the measures of its lines
abbrev pub measured_app : App
measured_app = with_rule (with_rule (file_app (codes "format")) (number_rule (codes "width") 40 200)) (number_rule (codes "indent") 1 8)

-- and with what they are made of
abbrev pub punctuated_app : App
punctuated_app = with_rule (with_rule (with_rule measured_app (flag_rule (codes "tabs"))) commas_rule) (flag_rule (codes "bare-arrows"))

-- a command with its arguments
abbrev pub command_app : Command → App
command_app (Check form) = with_rule reporting_app list_rule
command_app Mend = settled_app (word_of Mend)
command_app (Format choice) = with_rule (with_rule punctuated_app (flag_rule (codes "fewest"))) (flag_rule (codes "check"))
command_app Verify = with_rule (file_app (word_of Verify)) (required_rule (codes "table"))
command_app Same = with_rule (file_app (word_of Same)) (required_rule (codes "other"))
command_app other = file_app (word_of other)

abbrev pub with_command : App → Command → App
with_command app command = with_subcommand app (command_app command).top

-- `jslint`, which has a version, wants one of its commands, and answers no words with help
abbrev pub bare_app : App
bare_app = on_top (λ s. record s { has_version = true; subcommand_required = true; arg_required_else_help = true }) (new_app (codes "jslint"))

-- with its commands
abbrev pub jslint_app : App
jslint_app =
    with_command (with_command (with_command (with_command (with_command (with_command (with_command (with_command (with_command bare_app (Check Places)) Tree) Fix) Unwrap)
    Mend) (Format default_format)) Cost) Verify) Same

-- a command line that reads these words as the whole one does
abbrev pub ReadsAlike : App → List Text → Type 0
ReadsAlike app words = (is_simple_and_free app ≡ true) × (fault_of app words ≡ fault_of jslint_app words) × (takes app words ≡ takes jslint_app words)
    × (subcommand_of app words ≡ subcommand_of jslint_app words)

-- the second file of a command by what its words matched: `check` and `mend` have one where settings are named, `verify` and `same` always, no other has one
abbrev pub HasSecond : Command → List Row → Option Text → Type 0
HasSecond (Check form) rows second = second ≡ first_of (codes "settings") rows
HasSecond Mend rows second = second ≡ first_of (codes "settings") rows
HasSecond Verify rows second = (second ≡ first_of (codes "table") rows) × (is_some second ≡ true)
HasSecond Same rows second = (second ≡ first_of (codes "other") rows) × (is_some second ≡ true)
HasSecond other rows second = second ≡ None

-- whether a flag was given
abbrev pub is_set : Text → List Row → Bool
is_set id rows = option_map_or (λ (value : Text). bytes_eq value (codes "true")) (first_of id rows) false

-- the form of what `check` writes, by what its words matched: with spans where `--spans` was given
abbrev pub form_of : List Row → ReportForm
form_of rows = cond (is_set (codes "spans") rows) Spans Places

-- the number that a value of an option writes, in decimal; another one where there is none
abbrev pub number_of : ℕ → Option Text → ℕ
number_of default None = default
number_of default (Some text) = cond (is_unsigned_in 0 255 text) (digits_value 10 (without_leading_plus text)) default

-- how `format` is to write, by what its words matched
abbrev pub format_of : List Row → FormatChoice
format_of rows = record {
  width = number_of 80 (first_of (codes "width") rows);
  indent = number_of 2 (first_of (codes "indent") rows);
  tabs = is_set (codes "tabs") rows;
  commas = commas_or_all (first_of (codes "commas") rows);
  bare_arrows = is_set (codes "bare-arrows") rows;
  fewest = is_set (codes "fewest") rows;
  check = is_set (codes "check") rows;
}

abbrev pub HasForm : Command → List Row → Type 0
HasForm (Check form) rows = form ≡ form_of rows
HasForm (Format choice) rows = choice ≡ format_of rows
HasForm other rows = Unit {0}

-- what the words say of the language of scripts: an edition, whether they are modules, and whether each language is tried
abbrev pub HasLanguage : List Row → Option Text → (is_module is_any : Bool) → Type 0
HasLanguage rows edition is_module is_any =
    (edition ≡ first_of (codes "edition") rows) × (is_module ≡ is_set (codes "module") rows) × (is_any ≡ is_set (codes "any") rows)

-- the subcommand that was met is the line's command, in the form that was asked for, the line's files are the first values of its arguments, and so is
-- what it says of the language, and of commas, which `format` alone knows; FILE is a list of names where `--list` was given, which `check` alone knows
abbrev pub Chooses : Option (Text × List Row) → Line → Type 0
Chooses met line = (rows : List Row) × (met ≡ Some (word_of line.command, rows)) × (first_of (codes "file") rows ≡ Some line.file.now)
    × HasSecond line.command rows (option_map (λ s. s.now) line.second) × HasForm line.command rows × HasLanguage rows (option_map (λ s. s.now) line.edition) line.is_module line.is_any
    × (line.is_list ≡ is_set (codes "list") rows) × (option_map (λ s. s.now) line.commas ≡ first_of (codes "commas") rows)

-- the command that a word gives before its flags are looked at
abbrev pub plain : Command → Command
plain (Check form) = Check Places
plain (Format choice) = Format default_format
plain other = other

-- the files that a command must have are among what its words matched
abbrev pub HasFiles : Command → List Row → Type 0
HasFiles Verify rows = (is_some (first_of (codes "file") rows) ≡ true) × (is_some (first_of (codes "table") rows) ≡ true)
HasFiles Same rows = (is_some (first_of (codes "file") rows) ≡ true) × (is_some (first_of (codes "other") rows) ≡ true)
HasFiles other rows = is_some (first_of (codes "file") rows) ≡ true

-- the subcommand that was met is a command, and has its files
abbrev pub MeetsCommand : Option (Text × List Row) → Type 0
MeetsCommand met = (command : Command) × (rows : List Row) × (met ≡ Some (word_of command, rows)) × HasFiles command rows

-- the line for a word of the command line that isn't UTF-8
abbrev pub not_utf8_line : List ℕ
not_utf8_line = codes "jslint: the command line is not UTF-8\n"

-- help or the version was asked for: no mistake
abbrev pub is_asked_for : ErrorKind → Bool
is_asked_for DisplayHelp = true
is_asked_for DisplayVersion = true
is_asked_for other = false
