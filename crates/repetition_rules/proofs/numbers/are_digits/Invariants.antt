use Rattle.std.proofs.Common.{◌≡◌, drop}
use Rattle.repetition_rules.specs.Keys.{are_digits}
use Rattle.repetition_rules.proofs.numbers.are_digits.Given as goal

abbrev pub invariant-loop-byte : goal.invariant-loop-byte
invariant-loop-byte l = are_digits (drop l.byte-index l.bytes) ≡ are_digits l.bytes
