use Rattle.std.proofs.Common.{◌-◌, length}
use Rattle.tokens.specs.Alphabet.{is_decimal_digit}
use Rattle.tokens.specs.Scanned.{AllPass}
use Rattle.regular_expressions.proofs.count.digits_end.Given as goal

abbrev pub invariant-loop-step : goal.invariant-loop-step
invariant-loop-step l = AllPass is_decimal_digit l.text l.at l.end

abbrev pub decreases-loop-step : goal.decreases-loop-step
decreases-loop-step l = length l.initial.text - l.end
