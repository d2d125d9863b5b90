use Rattle.std.proofs.Common.{◌≡◌, take}
use Rattle.unwrapping.specs.Readings.{comments_in}
use Rattle.mending.proofs.comments.are_same_comments.Given as goal

abbrev pub invariant-loop-index : goal.invariant-loop-index
invariant-loop-index l = comments_in l.text (take l.index l.comments) ≡ comments_in l.other (take l.index l.others)
