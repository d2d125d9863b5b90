use Rattle.std.proofs.Common.{◌-◌, length}
use Rattle.regular_expressions.specs.Names.{is_no_end}
use Rattle.tokens.specs.Scanned.{AllPass}
use Rattle.regular_expressions.proofs.name.word_end.Given as goal

abbrev pub invariant-loop-step : goal.invariant-loop-step
invariant-loop-step l = AllPass is_no_end l.text l.at l.end

abbrev pub decreases-loop-step : goal.decreases-loop-step
decreases-loop-step l = length l.initial.text - l.end
