use Rattle.std.proofs.Common.{◌≤◌, length}
use Rattle.unwrapping.proofs.lines.last_line.Given as goal

abbrev pub invariant-loop-index : goal.invariant-loop-index
invariant-loop-index l = l.index ≤ length l.bytes

abbrev pub decreases-loop-index : goal.decreases-loop-index
decreases-loop-index l = l.index
