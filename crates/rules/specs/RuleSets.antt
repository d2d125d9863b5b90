-- Sets of rules, together.
use Rattle.std.specs.Prelude.{ℕ, Bool, true, false, ◌&&◌, ◌||◌, List}
use Rattle.rules.specs.RuleNames.{has_name, rules_in}
use Rattle.rules.specs.declared.rule_set.RuleSet.{RuleSet}
use Rattle.rules.specs.declared.rule_set.RuleSet.TheVariants.{Nine, Recommended, Every, Nothing}
use Rattle.rules.specs.declared.rule_set.RuleSets.{RuleSets}

abbrev pub no_sets : RuleSets
no_sets = record { nine = false; recommended = false; every = false }

abbrev pub with_set : RuleSets → RuleSet → RuleSets
with_set sets Nine = record sets { nine = true }
with_set sets Recommended = record sets { recommended = true }
with_set sets Every = record sets { every = true }
with_set sets Nothing = sets

-- one of these has a rule of this name
abbrev pub has_rule : RuleSets → List ℕ → Bool
has_rule sets name = (sets.nine && has_name (rules_in Nine) name) || ((sets.recommended && has_name (rules_in Recommended) name) || (sets.every && has_name (rules_in Every) name))
