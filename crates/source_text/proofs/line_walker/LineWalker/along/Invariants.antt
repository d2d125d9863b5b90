use Rattle.std.proofs.Common.{◌≡◌, ◌+◌, ◌≤◌}
use Rattle.source_text.specs.LineBytes.{after_bytes}
use Rattle.source_text.proofs.line_walker.LineWalker.along.Given as goal

abbrev pub invariant-loop-i : goal.invariant-loop-i
invariant-loop-i l = record { walked : (l.self.line, l.column) ≡ after_bytes (1, 1) l.i l.bytes; few_columns : l.column ≤ l.i + 1 }
