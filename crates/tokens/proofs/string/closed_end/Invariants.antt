use Rattle.std.proofs.Common.{◌-◌, length}
use Rattle.tokens.proofs.StringScans.{InString}
use Rattle.tokens.proofs.string.closed_end.Given as goal

abbrev pub invariant-loop-step : goal.invariant-loop-step
invariant-loop-step l = InString l.quote l.text l.at l.end

abbrev pub decreases-loop-step : goal.decreases-loop-step
decreases-loop-step l = length l.initial.text - l.end
