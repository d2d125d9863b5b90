use Rattle.std.proofs.Common.{◌-◌, length}
use Rattle.tokens.specs.Closers.{is_plain}
use Rattle.tokens.specs.Scanned.{AllPass}
use Rattle.tokens.proofs.plain.plain_end.Given as goal

abbrev pub invariant-loop-end : goal.invariant-loop-end
invariant-loop-end l = AllPass is_plain l.text l.at l.end

abbrev pub decreases-loop-end : goal.decreases-loop-end
decreases-loop-end l = length l.bytes - l.end
