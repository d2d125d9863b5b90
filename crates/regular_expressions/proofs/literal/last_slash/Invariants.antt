use Rattle.std.proofs.Common.{◌-◌, length}
use Rattle.regular_expressions.proofs.SlashSteps.{InLiteral}
use Rattle.regular_expressions.proofs.literal.last_slash.Given as goal

abbrev pub invariant-loop-step : goal.invariant-loop-step
invariant-loop-step l = InLiteral l.text l.from l.end l.slash l.has_u

abbrev pub decreases-loop-step : goal.decreases-loop-step
decreases-loop-step l = length l.initial.text - l.end
