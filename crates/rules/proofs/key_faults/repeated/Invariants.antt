use Rattle.std.proofs.Common.{◌≡◌, drop}
use Rattle.toml.specs.View.{items_view}
use Rattle.rules.specs.Misfits.{repeated}
use Rattle.rules.proofs.key_faults.repeated.Given as goal

abbrev pub invariant-loop-index : goal.invariant-loop-index
invariant-loop-index l = repeated (items_view (drop l.index l.values)) ≡ repeated (items_view l.values)
