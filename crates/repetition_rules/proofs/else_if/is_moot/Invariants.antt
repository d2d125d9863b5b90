use Rattle.std.proofs.Common.{◌≡◌, drop}
use Rattle.std.specs.List.{list_any}
use Rattle.repetition_rules.specs.Chains.{asked_before, is_all_covered, is_moot}
use Rattle.repetition_rules.proofs.else_if.is_moot.Given as goal

abbrev pub invariant-loop-operand : goal.invariant-loop-operand
invariant-loop-operand l = list_any (λ condition. is_all_covered (asked_before l.before) condition) (drop l.operand-index l.test.operands) ≡ is_moot l.before l.test
