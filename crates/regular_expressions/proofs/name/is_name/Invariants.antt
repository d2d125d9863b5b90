use Rattle.std.proofs.Common.{◌-◌, length}
use Rattle.regular_expressions.proofs.NameSteps.{InName}
use Rattle.regular_expressions.proofs.name.is_name.Given as goal

abbrev pub invariant-loop-step : goal.invariant-loop-step
invariant-loop-step l = InName l.word l.at l.is_first

abbrev pub decreases-loop-step : goal.decreases-loop-step
decreases-loop-step l = length l.initial.word - l.at
