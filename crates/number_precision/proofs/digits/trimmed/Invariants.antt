use Rattle.std.proofs.Common.{◌≡◌, ◌≤◌, length, take}
use Rattle.number_precision.specs.Digits.{trimmed}
use Rattle.number_precision.proofs.digits.trimmed.Given as goal

abbrev pub invariant-loop-end : goal.invariant-loop-end
invariant-loop-end l = (l.end ≤ length l.digits) × (trimmed (take l.end l.digits) ≡ trimmed l.digits)

abbrev pub decreases-loop-end : goal.decreases-loop-end
decreases-loop-end l = l.end
