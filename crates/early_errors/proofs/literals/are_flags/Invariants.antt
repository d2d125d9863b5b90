use Rattle.std.proofs.Common.{◌≡◌, drop}
use Rattle.early_errors.specs.Literals.{are_among, known_flags}
use Rattle.early_errors.proofs.literals.are_flags.Given as goal

abbrev pub invariant-loop-index : goal.invariant-loop-index
invariant-loop-index l = are_among (known_flags l.is_2022) (drop l.index l.flags) ≡ are_among (known_flags l.is_2022) l.flags
