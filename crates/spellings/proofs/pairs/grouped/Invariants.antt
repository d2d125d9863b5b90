use Rattle.std.proofs.Common.{◌≡◌, map, take}
use Rattle.spellings.specs.Groupings.{grouping, Passed}
use Rattle.spellings.proofs.pairs.grouped.Given as goal

abbrev pub invariant-loop-pair : goal.invariant-loop-pair
invariant-loop-pair l = record {
  found : l.pair_rows.items ≡ map (grouping l.starts) (take l.pair-index l.pairs);
  passed : Passed l.starts l.reached.index l.reached.place;
}
