use Rattle.std.proofs.Common.{take}
use Rattle.suppressions.specs.Left.{AreUsed}
use Rattle.suppressions.proofs.unused.used_by.Given as goal

abbrev pub invariant-loop-off : goal.invariant-loop-off
invariant-loop-off l = AreUsed l.count (take l.off-index l.offs) l.used.items
