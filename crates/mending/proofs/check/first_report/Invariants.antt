use Rattle.std.proofs.Common.{◌≤◌, ◌-◌, length}
use Rattle.mending.proofs.check.first_report.Given as goal

abbrev pub invariant-loop-low : goal.invariant-loop-low
invariant-loop-low l = (l.low ≤ l.high) × (l.high ≤ length l.reports)

abbrev pub decreases-loop-low : goal.decreases-loop-low
decreases-loop-low l = l.high - l.low
