use Rattle.std.proofs.Common.{◌-◌, length}
use Rattle.std.specs.String.{string_bytes}
use Rattle.tokens.proofs.LiteralValues.{InTurned}
use Rattle.tokens.proofs.value.turned.Given as goal

abbrev pub invariant-loop-step : goal.invariant-loop-step
invariant-loop-step l = InTurned l.text l.at l.returned (string_bytes l.out)

abbrev pub decreases-loop-step : goal.decreases-loop-step
decreases-loop-step l = length l.initial.text - l.at
