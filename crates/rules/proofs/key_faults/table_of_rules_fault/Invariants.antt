use Rattle.std.proofs.Common.{◌≡◌}
use Rattle.toml.specs.View.{members_view}
use Rattle.rules.specs.Misfits.{table_of_rules_fault}
use Rattle.rules.proofs.key_faults.table_of_rules_fault.Given as goal

abbrev pub invariant-loop-rule : goal.invariant-loop-rule
invariant-loop-rule l = table_of_rules_fault (members_view l.fn.rules.entries) ≡ table_of_rules_fault (members_view l.rule-iterator)
