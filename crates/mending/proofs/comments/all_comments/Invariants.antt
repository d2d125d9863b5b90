use Rattle.std.proofs.Common.{drop}
use Rattle.mending.proofs.CommentRuns.{AreFound}
use Rattle.mending.proofs.comments.all_comments.Given as goal

abbrev pub invariant-loop-row : goal.invariant-loop-row
invariant-loop-row l = AreFound l.reading.start l.source l.reading.tokens.items l.at (drop l.row-index l.reading.tokens.items) l.comments.items
