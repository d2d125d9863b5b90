use Rattle.std.proofs.Common.{◌≡◌, drop}
use Rattle.toml.specs.View.{items_view}
use Rattle.rules.specs.RuleSets.{no_sets}
use Rattle.rules.specs.Toml.{with_sets}
use Rattle.rules.proofs.settings_from_toml.named_sets.Given as goal

abbrev pub invariant-loop-value : goal.invariant-loop-value
invariant-loop-value l = with_sets l.sets (items_view (drop l.value-index l.values)) ≡ with_sets no_sets (items_view l.values)
