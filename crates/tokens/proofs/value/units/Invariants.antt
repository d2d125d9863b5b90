use Rattle.std.proofs.Common.{◌-◌, length}
use Rattle.tokens.proofs.LiteralValues.{InUnits}
use Rattle.tokens.proofs.value.units.Given as goal

abbrev pub invariant-loop-step : goal.invariant-loop-step
invariant-loop-step l = InUnits l.text l.at l.out.items

abbrev pub decreases-loop-step : goal.decreases-loop-step
decreases-loop-step l = length l.initial.text - l.at
