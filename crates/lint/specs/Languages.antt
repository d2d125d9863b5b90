-- The language of a script: what a call asks for, and what settings leave.
use Rattle.std.specs.Prelude.{Bool, true, false, cond, ◌&&◌, Option, Some, None}
use Rattle.commands.specs.declared.language_choice.LanguageChoice.{LanguageChoice}
use Rattle.commands.specs.declared.language_choice.LanguageChoice.TheVariants as asked
use Rattle.language.specs.declared.Language.{Language}
use Rattle.language.specs.declared.Language.TheVariants.{Base, Script, Module}
use Rattle.rules.specs.Languages.{has_language}
use Rattle.rules.specs.declared.languages.Languages.{Languages}

-- the language that a call asks for, where no settings say another one
abbrev pub asked_language : LanguageChoice → Language
asked_language asked.Unsaid = Base
asked_language asked.Edition2020 = Base
asked_language asked.Edition2022 = Script
asked_language asked.Module = Module

-- whether a call may mean the language
abbrev pub asks_for : LanguageChoice → Language → Bool
asks_for asked.Unsaid language = true
asks_for asked.Edition2020 Base = true
asks_for asked.Edition2022 Script = true
asks_for asked.Edition2022 Module = true
asks_for asked.Module Module = true
asks_for choice language = false

abbrev pub fits : LanguageChoice → Languages → Language → Bool
fits choice left language = has_language left language && asks_for choice language

-- the first language that a call may mean and settings leave: none where they contradict each other
abbrev pub language_of : LanguageChoice → Languages → Option Language
language_of choice left = cond (fits choice left Base) (Some Base) (cond (fits choice left Script) (Some Script) (cond (fits choice left Module) (Some Module) None))
