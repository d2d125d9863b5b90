use Rattle.retaining.specs.Comparing.{row_count}
use Rattle.retaining.proofs.RetainSteps.{Compares}
use Rattle.retaining.proofs.retaining.are_retained.Given as goal

abbrev pub invariant-loop-left : goal.invariant-loop-left
invariant-loop-left l = Compares l.reading.start l.source l.reading.tokens.items l.again.start l.formatted l.again.tokens.items l.left

abbrev pub decreases-loop-left : goal.decreases-loop-left
decreases-loop-left l = row_count l.left
