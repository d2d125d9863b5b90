use Rattle.std.proofs.Common.{◌-◌, length}
use Rattle.tokens.specs.Alphabet.{is_identifier_part}
use Rattle.tokens.specs.Scanned.{AllPass}
use Rattle.tokens.proofs.name.ascii_parts_end.Given as goal

abbrev pub invariant-loop-end : goal.invariant-loop-end
invariant-loop-end l = AllPass is_identifier_part l.text l.at l.end

abbrev pub decreases-loop-end : goal.decreases-loop-end
decreases-loop-end l = length l.bytes - l.end
