use Rattle.std.proofs.Common.{length}
use Rattle.unwrapping.proofs.writer.Writer.write_closed.Given as goal

abbrev pub decreases-loop-closing : goal.decreases-loop-closing
decreases-loop-closing l = length l.cursor.closed.now
