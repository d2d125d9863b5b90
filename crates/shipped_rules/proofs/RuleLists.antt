-- What rules of names find, where there are no others.
use Rattle.std.proofs.Common.{◌≡◌, ℕ, List, [], ◌++◌, Result, ap, ◌∙◌, subst, append-nil}
use Rattle.lint.specs.Run.{Seen}
use Rattle.lint.specs.AnyRuns.{RunsAsked}
use Rattle.rules.specs.Reports.{Report}
use Rattle.rules.specs.Rules.{View}
use Rattle.rules.specs.Run.{found_by_names}
use Rattle.rules.specs.declared.rule_list.RuleName.{RuleName}
use Rattle.commands.specs.declared.command.Command.{Command}
use Rattle.commands.specs.declared.asked_language.AskedLanguage.{AskedLanguage}
use Rattle.commands.specs.declared.refused.Refused.{Refused}
use Rattle.shipped_rules.specs.ShippedRules.{RunsByRules, rules_of}

pub without_others : (command : Command) (asked : AskedLanguage) (seen : Seen) (result : Result ℕ Refused) (names : List RuleName) → names ≡ rules_of command
    → RunsAsked (λ view. found_by_names names view ++ []) command asked seen result → RunsByRules command asked seen result
unfolding RunsByRules
without_others command asked seen result names e =
    subst (λ (finds : View → List Report). RunsAsked finds command asked seen result) ((λ i view. append-nil (found_by_names names view) i) ∙ ap found_by_names e)
