use Rattle.std.proofs.Common.{◌≤◌, ◌-◌}
use Rattle.source_text.specs.Located.{IsLocated}
use Rattle.source_text.proofs.line_walker.LineWalker.moved.Given as goal

abbrev pub invariant-loop-at : goal.invariant-loop-at
invariant-loop-at l = record { located : IsLocated l.bytes l.here; ahead : l.here.at ≤ l.place }

abbrev pub decreases-loop-at : goal.decreases-loop-at
decreases-loop-at l = l.place - l.here.at
