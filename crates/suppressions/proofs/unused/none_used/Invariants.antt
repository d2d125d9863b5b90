use Rattle.std.proofs.Common.{◌-◌, ◌≤◌, [], length}
use Rattle.suppressions.specs.Left.{AreUsed}
use Rattle.suppressions.proofs.unused.none_used.Given as goal

abbrev pub invariant-flags : goal.invariant-flags
invariant-flags l = record {
  unused : AreUsed (length l.used.items) [] l.used.items;
  most : length l.used.items ≤ l.count;
}

abbrev pub decreases-flags : goal.decreases-flags
decreases-flags l = l.count - length l.used.items
