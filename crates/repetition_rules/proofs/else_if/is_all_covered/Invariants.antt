use Rattle.std.proofs.Common.{◌≡◌, drop}
use Rattle.repetition_rules.specs.Chains.{asked_before, is_all_covered}
use Rattle.repetition_rules.proofs.else_if.is_all_covered.Given as goal

abbrev pub invariant-loop-choice : goal.invariant-loop-choice
invariant-loop-choice l = is_all_covered (asked_before l.before) (drop l.choice-index l.condition) ≡ is_all_covered (asked_before l.before) l.condition
