use Rattle.std.proofs.Common.{◌-◌, length}
use Rattle.tokens.proofs.TriviaSteps.{InBlock}
use Rattle.tokens.proofs.trivia.block_rest.Given as goal

abbrev pub invariant-loop-step : goal.invariant-loop-step
invariant-loop-step l = InBlock l.text l.at l.gap.end l.gap.has_line_break l.starred

abbrev pub decreases-loop-step : goal.decreases-loop-step
decreases-loop-step l = length l.initial.text - l.gap.end
