use Rattle.std.specs.Prelude.{◌≡◌, ◌+◌, ◌≤◌}
use Rattle.number_precision.specs.Limbs.{value_below}
use Rattle.number_precision.proofs.big.are_less.Given as goal

abbrev pub invariant-loop-i : goal.invariant-loop-i
invariant-loop-i l = (l.i ≤ l.len) × (value_below l.a l.len + value_below l.b l.i ≡ value_below l.b l.len + value_below l.a l.i)

abbrev pub decreases-loop-i : goal.decreases-loop-i
decreases-loop-i l = l.i
