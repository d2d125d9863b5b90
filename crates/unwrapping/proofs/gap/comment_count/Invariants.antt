use Rattle.std.proofs.Common.{length}
use Rattle.unwrapping.proofs.gap.comment_count.Given as goal

abbrev pub decreases-loop-part : goal.decreases-loop-part
decreases-loop-part l = length l.rest
