use Rattle.std.proofs.Common.{◌≡◌, ◌++◌}
use Rattle.std.specs.Vec.Iter.{into_iter_items, into_iter_len}
use Rattle.suppressions.specs.Left.{left_of}
use Rattle.suppressions.proofs.left.left_of.Given as goal

abbrev pub invariant-loop-report : goal.invariant-loop-report
invariant-loop-report l = l.left.items ++ left_of l.ahead (into_iter_items l.rest) ≡ left_of l.fn.offs l.fn.reports.items

abbrev pub decreases-loop-report : goal.decreases-loop-report
decreases-loop-report l = into_iter_len l.rest
