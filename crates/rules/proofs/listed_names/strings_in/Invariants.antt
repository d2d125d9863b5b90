use Rattle.std.proofs.Common.{◌≡◌, ◌++◌, drop, map, string_bytes}
use Rattle.toml.specs.View.{items_view}
use Rattle.rules.specs.Toml.{strings_in}
use Rattle.rules.proofs.listed_names.strings_in.Given as goal

abbrev pub invariant-loop-value : goal.invariant-loop-value
invariant-loop-value l = map string_bytes l.strings.items ++ strings_in (items_view (drop l.value-index l.values)) ≡ strings_in (items_view l.values)
