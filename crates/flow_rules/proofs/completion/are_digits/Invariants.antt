use Rattle.std.proofs.Common.{◌≡◌, drop}
use Rattle.flow_rules.specs.Completion.{are_digits}
use Rattle.flow_rules.proofs.completion.are_digits.Given as goal

abbrev pub invariant-loop-byte : goal.invariant-loop-byte
invariant-loop-byte l = are_digits (drop l.byte-index l.bytes) ≡ are_digits l.bytes
