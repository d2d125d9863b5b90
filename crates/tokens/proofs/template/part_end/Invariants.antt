use Rattle.std.proofs.Common.{◌-◌, length}
use Rattle.tokens.proofs.Parts.{InPart}
use Rattle.tokens.proofs.template.part_end.Given as goal

abbrev pub invariant-loop-step : goal.invariant-loop-step
invariant-loop-step l = InPart l.text l.at l.end l.taken l.dollar

abbrev pub decreases-loop-step : goal.decreases-loop-step
decreases-loop-step l = length l.initial.text - l.end
