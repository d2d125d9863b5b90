use Rattle.std.proofs.Common.{◌-◌, length}
use Rattle.regular_expressions.proofs.NameSteps.{InPlain}
use Rattle.regular_expressions.proofs.name.has_escape.Given as goal

abbrev pub invariant-loop-step : goal.invariant-loop-step
invariant-loop-step l = InPlain l.word l.at

abbrev pub decreases-loop-step : goal.decreases-loop-step
decreases-loop-step l = length l.initial.word - l.at
