use Rattle.std.specs.Str.{trim}
use Rattle.std.specs.Str.Iter.{lines_steps}
use Rattle.std.specs.Str.Lines.{lines}
use Rattle.retaining.proofs.CommentLines.{AreLeft}
use Rattle.retaining.proofs.comments.have_same_words.Given as goal

abbrev pub invariant-loop-line : goal.invariant-loop-line
invariant-loop-line l = AreLeft lines_steps trim (lines l.text) (lines l.other) l.line-iterator l.others
