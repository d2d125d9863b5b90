use Rattle.std.proofs.Common.{◌≡◌}
use Rattle.toml.specs.View.{members_view}
use Rattle.rules.specs.Misfits.{table_fault}
use Rattle.rules.proofs.key_faults.table_fault.Given as goal

abbrev pub invariant-loop-key : goal.invariant-loop-key
invariant-loop-key l = table_fault l.rule (members_view l.fn.table.entries) ≡ table_fault l.rule (members_view l.key-iterator)
