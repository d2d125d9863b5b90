use Rattle.std.proofs.Common.{◌≡◌}
use Rattle.toml.specs.View.{members_view}
use Rattle.rules.specs.Misfits.{key_fault}
use Rattle.rules.proofs.key_faults.first_unknown.Given as goal

abbrev pub invariant-loop-key : goal.invariant-loop-key
invariant-loop-key l = key_fault (members_view l.fn.table.entries) ≡ key_fault (members_view l.key-iterator)
