use Rattle.std.proofs.Common.{◌≡◌, ◌≤◌, take}
use Rattle.regular_expressions.specs.Terms.{decimal_value}
use Rattle.regular_expressions.proofs.count.number_within.Given as goal

abbrev pub invariant-loop-byte : goal.invariant-loop-byte
invariant-loop-byte l = record { counted : l.value ≡ decimal_value 0 (take l.byte-index l.fn.digits); within : l.value ≤ l.limit }
