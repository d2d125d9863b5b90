use Rattle.std.proofs.Common.{◌≡◌, true, drop}
use Rattle.retaining.specs.Retains.{breaks_behind_comment}
use Rattle.retaining.proofs.words.breaks_behind_comment.Given as goal

abbrev pub invariant-loop-index : goal.invariant-loop-index
invariant-loop-index l = breaks_behind_comment (drop l.index l.gap) ≡ true → breaks_behind_comment l.gap ≡ true
