use Rattle.std.proofs.Common.{◌≤◌, length, drop}
use Rattle.layout_items.specs.Passes.{HasPassed}
use Rattle.layout_items.proofs.needs.needs_of_groups.Given as goal

abbrev pub invariant-loop-at : goal.invariant-loop-at
invariant-loop-at l = record {
  within : l.at ≤ length l.items;
  passed : HasPassed l.measures (drop l.at l.items);
}

abbrev pub decreases-loop-at : goal.decreases-loop-at
decreases-loop-at l = l.at
