use Rattle.std.proofs.Common.{◌-◌, length}
use Rattle.regular_expressions.specs.Scanned.{ranges_as}
use Rattle.regular_expressions.proofs.ClassSteps.{InClass}
use Rattle.regular_expressions.proofs.class.ranges_end.Given as goal

abbrev pub invariant-loop-step : goal.invariant-loop-step
invariant-loop-step l = InClass l.is_unicode l.text l.at (ranges_as l.ranges) l.end

abbrev pub decreases-loop-step : goal.decreases-loop-step
decreases-loop-step l = length l.initial.text - l.end
