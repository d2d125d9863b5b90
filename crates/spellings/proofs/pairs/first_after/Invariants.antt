use Rattle.spellings.specs.Groupings.{Passed}
use Rattle.spellings.proofs.pairs.first_after.Given as goal

abbrev pub invariant-loop-index : goal.invariant-loop-index
invariant-loop-index l = Passed l.starts l.index l.place
