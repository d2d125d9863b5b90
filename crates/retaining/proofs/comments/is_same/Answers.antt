use Rattle.std.proofs.Common.{map, sym, ap, ◌∙◌}
use Rattle.std.specs.Str.{trim}
use Rattle.std.specs.Str.Lines.{lines}
use Rattle.unwrapping.specs.Readings.{comment_in}
use Rattle.retaining.specs.Retains.{is_starred}
use Rattle.retaining.proofs.CommentLines.{comments_by_lines, comments_by_words}
use Rattle.retaining.proofs.comments.is_same.Goals as goal

pub returns-then-have_same_lines : goal.returns-then-have_same_lines
returns-then-have_same_lines c = λ _.
    comments_by_lines (comment_in c.args.text.now c.args.comment) (comment_in c.args.other.now c.args.like)
    (ap lines (sym c.in-Some.ensures) ∙ c.have_same_lines.ensures c.if-have_same_lines.true ∙ ap lines c.in-Some-text_in.ensures)

pub returns : goal.returns
returns c = λ same.
    comments_by_words (comment_in c.args.text.now c.args.comment) (comment_in c.args.other.now c.args.like) (ap (λ b. is_starred (lines b)) (sym c.in-Some.ensures) ∙ c.is_starred.ensures c.if-not-is_starred.false)
    (ap (λ b. is_starred (lines b)) (sym c.in-Some-text_in.ensures) ∙ c.is_starred-2.ensures c.if-not-is_starred-2.false)
    (ap (λ b. map trim (lines b)) (sym c.in-Some.ensures) ∙ c.have_same_words.ensures same ∙ ap (λ b. map trim (lines b)) c.in-Some-text_in.ensures)
