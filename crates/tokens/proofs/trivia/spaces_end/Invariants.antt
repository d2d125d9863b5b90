use Rattle.std.proofs.Common.{◌-◌, length, false}
use Rattle.tokens.specs.Scanned.{IsGap}
use Rattle.tokens.proofs.trivia.spaces_end.Given as goal

abbrev pub invariant-loop-end : goal.invariant-loop-end
invariant-loop-end l = IsGap l.text l.at l.end false

abbrev pub decreases-loop-end : goal.decreases-loop-end
decreases-loop-end l = length l.bytes - l.end
