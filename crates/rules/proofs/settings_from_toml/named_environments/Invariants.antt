use Rattle.std.proofs.Common.{◌≡◌, drop}
use Rattle.toml.specs.View.{items_view}
use Rattle.rules.specs.Environments.{no_environments}
use Rattle.rules.specs.Toml.{with_environments}
use Rattle.rules.proofs.settings_from_toml.named_environments.Given as goal

abbrev pub invariant-loop-value : goal.invariant-loop-value
invariant-loop-value l = with_environments l.environments (items_view (drop l.value-index l.values)) ≡ with_environments no_environments (items_view l.values)
