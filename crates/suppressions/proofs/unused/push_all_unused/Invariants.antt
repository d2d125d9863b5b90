use Rattle.std.proofs.Common.{◌≡◌, ◌++◌, drop}
use Rattle.suppressions.specs.Left.{unused_from}
use Rattle.suppressions.proofs.unused.push_all_unused.Given as goal

abbrev pub invariant-loop-index : goal.invariant-loop-index
invariant-loop-index l = l.out.items ++ unused_from l.index l.offs (drop l.index l.suppressions) ≡ l.fn.out.items ++ unused_from 0 l.offs l.suppressions
