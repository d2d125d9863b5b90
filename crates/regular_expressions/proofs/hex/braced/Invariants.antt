use Rattle.std.proofs.Common.{◌-◌, length}
use Rattle.tokens.proofs.EscapeParts.{InDigits}
use Rattle.regular_expressions.proofs.hex.braced.Given as goal

abbrev pub invariant-loop-step : goal.invariant-loop-step
invariant-loop-step l = InDigits l.text l.at l.end l.value

abbrev pub decreases-loop-step : goal.decreases-loop-step
decreases-loop-step l = length l.initial.text - l.end
