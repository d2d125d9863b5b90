use Rattle.std.proofs.Common.{◌≡◌, drop}
use Rattle.toml.specs.View.{items_view}
use Rattle.rules.specs.Misfits.{unfit_item}
use Rattle.rules.proofs.key_faults.unfit_item.Given as goal

abbrev pub invariant-loop-value : goal.invariant-loop-value
invariant-loop-value l = unfit_item l.key (items_view (drop l.value-index l.values)) ≡ unfit_item l.key (items_view l.values)
