use Rattle.std.specs.Str.Iter.{lines_steps}
use Rattle.std.specs.Str.Lines.{lines}
use Rattle.retaining.proofs.CommentLines.{IsStarredBy}
use Rattle.retaining.proofs.comments.is_starred.Given as goal

abbrev pub invariant-loop-line : goal.invariant-loop-line
invariant-loop-line l = IsStarredBy lines_steps (lines l.text) l.line-iterator
