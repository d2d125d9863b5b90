use Rattle.std.proofs.Common.{◌≡◌, true, drop}
use Rattle.mending.specs.Making.{are_reported}
use Rattle.mending.proofs.check.are_reported.Given as goal

abbrev pub invariant-loop-change : goal.invariant-loop-change
invariant-loop-change l = are_reported l.reports (drop l.change-index l.changes) ≡ true → are_reported l.reports l.changes ≡ true
