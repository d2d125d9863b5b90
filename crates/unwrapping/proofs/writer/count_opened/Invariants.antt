use Rattle.std.proofs.Common.{length}
use Rattle.unwrapping.proofs.writer.count_opened.Given as goal

abbrev pub decreases-loop-count : goal.decreases-loop-count
decreases-loop-count l = length l.cursor.opened.now
