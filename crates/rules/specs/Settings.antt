-- Settings, and which rules they let run.
use Rattle.std.specs.Prelude.{ℕ, Bool, not, ◌||◌, List}
use Rattle.std.specs.List.{list_any}
use Rattle.std.specs.Str.{bytes_eq}
use Rattle.rules.specs.declared.environment.Environments.{Environments}
use Rattle.rules.specs.Environments.{has_name as is_of_environment}
use Rattle.rules.specs.RuleNames.{has_name, is_rule}
use Rattle.rules.specs.declared.rule_list.RuleName.{RuleName}
use Rattle.rules.specs.RuleOptions.{NameLists}
use Rattle.rules.specs.declared.rule_option.RuleOptions.{RuleOptions}
use Rattle.rules.specs.declared.languages.Languages.{Languages}

-- the rules whose reports are errors; those whose reports are warnings; the global names, in order of their bytes, each once; the environments; the languages that a
-- script may be in; the options of rules, and their lists of names
pub record Settings : Type 0 where
  pub errors : List RuleName
  pub warnings : List RuleName
  pub globals : List (List ℕ)
  pub environments : Environments
  pub languages : Languages
  pub options : RuleOptions
  pub lists : NameLists

-- the reports of a rule of this name are warnings
abbrev pub is_warning : List ℕ → Settings → Bool
is_warning name s = has_name s.warnings name

-- a rule of another name than these is always on
abbrev pub is_on : List ℕ → Settings → Bool
is_on name s = has_name s.errors name || (is_warning name s || not (is_rule name))

-- `globals` has the name, or an environment
abbrev pub is_global : List ℕ → Settings → Bool
is_global name s = list_any (λ x. bytes_eq name x) s.globals || is_of_environment s.environments name
