use Rattle.std.proofs.Common.{◌≡◌, drop}
use Rattle.toml.specs.View.{items_view}
use Rattle.rules.specs.Misfits.{has_string}
use Rattle.rules.proofs.key_faults.has_string.Given as goal

abbrev pub invariant-loop-value : goal.invariant-loop-value
invariant-loop-value l = has_string l.text (items_view (drop l.value-index l.values)) ≡ has_string l.text (items_view l.values)
