use Rattle.std.proofs.Common.{◌-◌, length}
use Rattle.tokens.specs.States.{expression_of}
use Rattle.tokens.proofs.Expressions.{InExpression}
use Rattle.tokens.proofs.regexp.flags_end.Given as goal

abbrev pub invariant-loop-step : goal.invariant-loop-step
invariant-loop-step l = InExpression l.text l.at l.end (expression_of l.part)

abbrev pub decreases-loop-step : goal.decreases-loop-step
decreases-loop-step l = length l.initial.text - l.end
