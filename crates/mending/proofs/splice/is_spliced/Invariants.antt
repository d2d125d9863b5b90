use Rattle.std.proofs.Common.{◌≤◌, length}
use Rattle.mending.proofs.SpliceSteps.{IsLeft}
use Rattle.mending.proofs.splice.is_spliced.Given as goal

abbrev pub invariant-loop-edit : goal.invariant-loop-edit
invariant-loop-edit l = (l.at ≤ length l.text) × (l.to ≤ length l.next) × IsLeft l.text l.edits l.next l.edit-index l.at l.to
