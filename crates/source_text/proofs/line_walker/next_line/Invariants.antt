use Rattle.std.proofs.Common.{◌≤◌, ◌-◌}
use Rattle.source_text.specs.LineBytes.{NoLineEnds}
use Rattle.source_text.proofs.line_walker.next_line.Given as goal

abbrev pub invariant-loop-passed : goal.invariant-loop-passed
invariant-loop-passed l = record { ordered : l.from ≤ l.seen; within : l.seen ≤ l.to; none : NoLineEnds l.bytes l.from l.seen }

abbrev pub decreases-loop-passed : goal.decreases-loop-passed
decreases-loop-passed l = l.to - l.seen
