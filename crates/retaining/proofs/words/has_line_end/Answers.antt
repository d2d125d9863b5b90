use Rattle.retaining.proofs.LineEnds.{ends_further}
use Rattle.retaining.proofs.words.has_line_end.Goals as goal

pub loop-index-preserved : goal.loop-index-preserved
loop-index-preserved c = λ ends. c.loop-index.invariant (ends_further c.args.bytes.now c.loop-index.index c.loop-index-test.true ends)
