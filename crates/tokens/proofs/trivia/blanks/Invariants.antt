use Rattle.std.proofs.Common.{◌-◌, length}
use Rattle.tokens.specs.Scanned.{IsGap}
use Rattle.tokens.proofs.trivia.blanks.Given as goal

abbrev pub invariant-loop-step : goal.invariant-loop-step
invariant-loop-step l = IsGap l.text l.at l.gap.end l.gap.has_line_break

abbrev pub decreases-loop-step : goal.decreases-loop-step
decreases-loop-step l = length l.initial.text - l.gap.end
