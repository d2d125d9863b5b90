use Rattle.std.proofs.Common.{◌-◌, length}
use Rattle.tokens.specs.Scanned.{IsGap}
use Rattle.tokens.proofs.trivia.skip_all_trivia.Given as goal

abbrev pub invariant-loop-next : goal.invariant-loop-next
invariant-loop-next l = IsGap l.text l.at l.gap.end l.gap.has_line_break

abbrev pub decreases-loop-next : goal.decreases-loop-next
decreases-loop-next l = length l.initial.text - l.gap.end
