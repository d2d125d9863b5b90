use Rattle.std.proofs.Common.{◌≡◌, true, drop}
use Rattle.retaining.specs.Retains.{has_line_end}
use Rattle.retaining.proofs.words.has_line_end.Given as goal

abbrev pub invariant-loop-index : goal.invariant-loop-index
invariant-loop-index l = has_line_end (drop l.index l.bytes) ≡ true → has_line_end l.bytes ≡ true
