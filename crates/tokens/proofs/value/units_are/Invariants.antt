use Rattle.std.proofs.Common.{◌-◌, ◌≤◌, length, take}
use Rattle.tokens.proofs.LiteralValues.{InUnits}
use Rattle.tokens.proofs.value.units_are.Given as goal

abbrev pub invariant-loop-step : goal.invariant-loop-step
invariant-loop-step l = (l.matched ≤ length l.word) × InUnits l.text l.at (take l.matched l.word)

abbrev pub decreases-loop-step : goal.decreases-loop-step
decreases-loop-step l = length l.initial.text - l.at
