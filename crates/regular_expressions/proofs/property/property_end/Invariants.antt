use Rattle.std.proofs.Common.{◌-◌, length}
use Rattle.regular_expressions.specs.PropertyNames.{is_property_character}
use Rattle.tokens.specs.Scanned.{AllPass}
use Rattle.regular_expressions.proofs.property.property_end.Given as goal

abbrev pub invariant-loop-step : goal.invariant-loop-step
invariant-loop-step l = AllPass is_property_character l.text l.at l.end

abbrev pub decreases-loop-step : goal.decreases-loop-step
decreases-loop-step l = length l.initial.text - l.end
