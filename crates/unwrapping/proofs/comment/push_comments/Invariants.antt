use Rattle.std.proofs.Common.{◌-◌}
use Rattle.unwrapping.proofs.CommentSteps.{IsPassing}
use Rattle.unwrapping.proofs.comment.push_comments.Given as goal

abbrev pub invariant-loop-place : goal.invariant-loop-place
invariant-loop-place l = IsPassing l.source l.at l.place l.stop l.fn.comments.items l.comments.items

abbrev pub decreases-loop-place : goal.decreases-loop-place
decreases-loop-place l = l.stop - l.place
