-- Which rules a command has, and a run by them.
use Rattle.std.specs.Prelude.{List, [], ℕ, Result}
use Rattle.lint.specs.Run.{Seen}
use Rattle.lint.specs.AnyRuns.{RunsAsked}
use Rattle.rules.specs.Reports.{Report}
use Rattle.rules.specs.RuleNames.{all_rules}
use Rattle.rules.specs.declared.rule_list.RuleName.{RuleName}
use Rattle.rules.specs.Rules.{View}
use Rattle.rules.specs.Run.{found_by_names}
use Rattle.commands.specs.declared.command.Command.{Command}
use Rattle.commands.specs.declared.command.Command.TheVariants.{Check, Mend}
use Rattle.commands.specs.declared.asked_language.AskedLanguage.{AskedLanguage}
use Rattle.commands.specs.declared.refused.Refused.{Refused}

-- the rules of a command: `check` and `mend` have those of `rules`, no other has any
abbrev pub rules_of : Command → List RuleName
rules_of (Check form) = all_rules
rules_of Mend = all_rules
rules_of other = []

-- what the rules of a command find, where the settings don't turn them off
abbrev pub finds_of : Command → View → List Report
finds_of command view = found_by_names (rules_of command) view

-- a run by the rules of the command; a proof looks into it only where it asks to
unfoldable pub RunsByRules : Command → AskedLanguage → Seen → Result ℕ Refused → Type 0
RunsByRules command asked seen result = RunsAsked (finds_of command) command asked seen result
