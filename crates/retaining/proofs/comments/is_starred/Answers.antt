use Rattle.std.proofs.Common.{◌≡◌, sym, ap, ◌∙◌, subst}
use Rattle.std.specs.Str.Iter.{lines_steps}
use Rattle.std.specs.Str.Lines.{lines}
use Rattle.std.proofs.lemmas.Iterator.Splits.{YieldsList-from_lines}
use Rattle.retaining.specs.Retains.{begins_with_star}
use Rattle.retaining.proofs.CommentLines.{IsStarredBy, starred_first, starred_on, starred_end}
use Rattle.retaining.proofs.comments.is_starred.Goals as goal

pub loop-line-init : goal.loop-line-init
loop-line-init c =
    let e : c.next.new.self ≡ c.into_iter-line-iterator.result = cc in
    subst (λ s. IsStarredBy lines_steps (lines c.args.text.now) s) e
    (starred_first lines_steps (lines c.args.text.now) c.in-Some._first c.next.result (YieldsList-from_lines {s = c.lines-lines.result} c.args.text.now c.lines-lines.ensures.rest).runs c.in-Some.is c.next.ensures.steps)

pub loop-line-preserved : goal.loop-line-preserved
loop-line-preserved c =
    starred_on lines_steps c.in-Some-line.line c.next-in-loop-line.result c.loop-line.invariant c.in-Some-line.is c.next-in-loop-line.ensures.steps
    (ap begins_with_star (sym (c.as_bytes.ensures.value ∙ c.trim.ensures.trim)) ∙ c.begins_with_star.ensures c.if-not-begins_with_star.false)

pub returns : goal.returns
returns c = λ _. starred_end lines_steps c.next-in-loop-line.result c.loop-line.invariant c.in-None.is c.next-in-loop-line.ensures.steps
