use Rattle.std.proofs.Common.{◌-◌, length}
use Rattle.std.specs.String.{string_bytes}
use Rattle.regular_expressions.proofs.NameSteps.{InSpelled}
use Rattle.regular_expressions.proofs.name.unescaped.Given as goal

abbrev pub invariant-loop-step : goal.invariant-loop-step
invariant-loop-step l = InSpelled l.word l.at (string_bytes l.name)

abbrev pub decreases-loop-step : goal.decreases-loop-step
decreases-loop-step l = length l.initial.word - l.at
