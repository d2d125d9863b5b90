use Rattle.std.proofs.Common.{◌≡◌, map, drop, option_map}
use Rattle.std.specs.Prelude.{string_bytes}
use Rattle.toml.specs.View.{items_view}
use Rattle.rules.specs.Toml.{set_of, strings_of, with_names}
use Rattle.rules.proofs.settings_from_toml.set.Given as goal

abbrev pub invariant-loop-value : goal.invariant-loop-value
invariant-loop-value l = option_map (with_names (map string_bytes l.set.keys)) (strings_of (items_view (drop l.value-index l.values))) ≡ set_of (items_view l.values)
