-- The language that the words of the command line ask for, and the commas.
use Rattle.std.specs.Prelude.{ℕ, Bool, true, false, cond, List, Option, Some, None, Result, Ok, Err, codes, unwrap_or}
use Rattle.std.specs.Str.{bytes_eq}
use Rattle.commands.specs.declared.asked_language.AskedLanguage.{AskedLanguage}
use Rattle.commands.specs.declared.asked_language.AskedLanguage.TheVariants.{Said, Any}
use Rattle.commands.specs.declared.command.CommaChoice.{CommaChoice}
use Rattle.commands.specs.declared.command.CommaChoice.TheVariants.{Nowhere, Lists, Everywhere}
use Rattle.commands.specs.declared.language_choice.LanguageChoice.{LanguageChoice}
use Rattle.commands.specs.declared.language_choice.LanguageChoice.TheVariants.{Unsaid, Edition2020, Edition2022, Module}
use Rattle.command_line.specs.declared.asked_language.OptionMistake.{OptionMistake}
use Rattle.command_line.specs.declared.asked_language.OptionMistake.TheVariants as mistake

-- where lists have last commas, by its name
abbrev pub commas_named : List ℕ → Option CommaChoice
commas_named name = cond (bytes_eq name (codes "none")) (Some Nowhere) (cond (bytes_eq name (codes "lists")) (Some Lists) (cond (bytes_eq name (codes "all")) (Some Everywhere) None))

-- what `--commas` says, where it is given
abbrev pub commas_of : Option (List ℕ) → Option CommaChoice
commas_of None = Some Everywhere
commas_of (Some name) = commas_named name

-- and where it says nothing
abbrev pub commas_or_all : Option (List ℕ) → CommaChoice
commas_or_all commas = unwrap_or (commas_of commas) Everywhere

-- an edition by its name
abbrev pub edition_named : List ℕ → Option LanguageChoice
edition_named name = cond (bytes_eq name (codes "2020")) (Some Edition2020) (cond (bytes_eq name (codes "2022")) (Some Edition2022) None)

-- what `--edition` says, where it is given
abbrev pub edition_of : Option (List ℕ) → Option LanguageChoice
edition_of None = Some Unsaid
edition_of (Some name) = edition_named name

-- what `--module` says beside it: the base profile has no modules
abbrev pub module_of : LanguageChoice → Result LanguageChoice OptionMistake
module_of Edition2020 = Err mistake.Module
module_of edition = Ok Module

abbrev pub language_by : Option LanguageChoice → Bool → Result LanguageChoice OptionMistake
language_by None is_module = Err mistake.Edition
language_by (Some edition) false = Ok edition
language_by (Some edition) true = module_of edition

-- what both say, or why they say nothing
abbrev pub language_of : Option (List ℕ) → Bool → Result LanguageChoice OptionMistake
language_of edition is_module = language_by (edition_of edition) is_module

-- what `--any` says beside them: that each language is tried, so none may be said
abbrev pub any_beside : Option (List ℕ) → Bool → Result AskedLanguage OptionMistake
any_beside None false = Ok Any
any_beside None true = Err mistake.Any
any_beside (Some edition) is_module = Err mistake.Any

abbrev pub said_by : Result LanguageChoice OptionMistake → Result AskedLanguage OptionMistake
said_by (Ok choice) = Ok (Said choice)
said_by (Err mistake) = Err mistake

-- the language that the three ask for, or why they ask for none
abbrev pub asked_by : Option (List ℕ) → (is_module is_any : Bool) → Result AskedLanguage OptionMistake
asked_by edition is_module true = any_beside edition is_module
asked_by edition is_module false = said_by (language_of edition is_module)

abbrev pub language_beside : Option CommaChoice → Result AskedLanguage OptionMistake → Result AskedLanguage OptionMistake
language_beside None language = Err mistake.Commas
language_beside (Some commas) language = language

-- the language that the options of a line ask for, where all of them ask for something
abbrev pub asked_of : (commas edition : Option (List ℕ)) → (is_module is_any : Bool) → Result AskedLanguage OptionMistake
asked_of commas edition is_module is_any = language_beside (commas_of commas) (asked_by edition is_module is_any)

-- the line for words that ask for none, with its line feed
abbrev pub mistake_line : OptionMistake → List ℕ
mistake_line mistake.Edition = codes "jslint: --edition is 2020 or 2022\n"
mistake_line mistake.Module = codes "jslint: --module doesn't go with --edition 2020\n"
mistake_line mistake.Any = codes "jslint: --any doesn't go with --edition or --module\n"
mistake_line mistake.Commas = codes "jslint: --commas is none, lists or all\n"
