use Rattle.std.proofs.Common.{◌≡◌, ◌++◌, drop, map}
use Rattle.source_text.specs.Located.{IsLocated}
use Rattle.suppressions.specs.Deciding.{turned_off}
use Rattle.suppressions.specs.Sweeps.{IsSwept}
use Rattle.suppressions.proofs.left.turned_off.Given as goal

abbrev pub invariant-loop-report : goal.invariant-loop-report
invariant-loop-report l = record {
  located : IsLocated l.source l.here;
  swept : IsSwept l.suppressions l.sweep;
  found : l.offs.items ++ map (turned_off l.reach l.source l.suppressions) (drop l.report-index l.reports) ≡ map (turned_off l.reach l.source l.suppressions) l.reports;
}
