use Rattle.std.proofs.Common.{◌-◌, length}
use Rattle.tokens.specs.States.{numeral_of}
use Rattle.tokens.proofs.Numerals.{InNumber}
use Rattle.tokens.proofs.number.number_end.Given as goal

abbrev pub invariant-loop-step : goal.invariant-loop-step
invariant-loop-step l = InNumber l.text l.at l.end (numeral_of l.state)

abbrev pub decreases-loop-step : goal.decreases-loop-step
decreases-loop-step l = length l.initial.text - l.end
