use Rattle.std.specs.Str.Iter.{lines_steps}
use Rattle.std.specs.Str.Lines.{lines}
use Rattle.retaining.proofs.CommentLines.{AreLeft}
use Rattle.retaining.proofs.comments.have_same_lines.Given as goal

abbrev pub invariant-loop-line : goal.invariant-loop-line
invariant-loop-line l = AreLeft lines_steps (λ x. x) (lines l.text) (lines l.other) l.line-iterator l.others
