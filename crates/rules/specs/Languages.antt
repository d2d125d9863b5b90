-- The languages that settings leave to scripts.
use Rattle.std.specs.Prelude.{ℕ, ℤ, pos, Bool, true, false, cond, not, ◌&&◌, List, Option, Some, None}
use Rattle.std.specs.Ordering.{int_eq}
use Rattle.language.specs.Vocabulary.{is}
use Rattle.language.specs.declared.Language.{Language}
use Rattle.language.specs.declared.Language.TheVariants.{Base, Script, Module}
use Rattle.rules.specs.declared.languages.Languages.{Languages}

abbrev pub all_languages : Languages
all_languages = record { base = true; scripts = true; modules = true }

-- `edition`: the base profile, or the language of 2022
abbrev pub edition_languages : ℤ → Option Languages
edition_languages year =
    cond (int_eq year (pos 2020)) (Some (record { base = true; scripts = false; modules = false }))
    (cond (int_eq year (pos 2022)) (Some (record { base = false; scripts = true; modules = true })) None)

-- `source-type`: scripts, of either edition, or modules
abbrev pub source_type_languages : List ℕ → Option Languages
source_type_languages name =
    cond (is name "script") (Some (record { base = true; scripts = true; modules = false }))
    (cond (is name "module") (Some (record { base = false; scripts = false; modules = true })) None)

abbrev pub both_of : Languages → Languages → Languages
both_of a b = record { base = a.base && b.base; scripts = a.scripts && b.scripts; modules = a.modules && b.modules }

abbrev pub has_none : Languages → Bool
has_none a = not a.base && (not a.scripts && not a.modules)

abbrev pub has_language : Languages → Language → Bool
has_language a Base = a.base
has_language a Script = a.scripts
has_language a Module = a.modules
