use Rattle.std.proofs.Common.{◌≡◌, sym, ◌∙◌}
use Rattle.std.specs.Str.{trim}
use Rattle.std.specs.Str.Iter.{lines_steps, lines_rest}
use Rattle.retaining.proofs.CommentLines.{lines_begin, line_on, lines_end}
use Rattle.retaining.proofs.comments.have_same_words.Goals as goal

pub loop-line-init : goal.loop-line-init
loop-line-init c =
    let e : lines_rest c.into_iter-line-iterator.result ≡ c.args.text.now = cc in
    lines_begin trim c.args.text.now c.args.other.now e c.lines-others.ensures.rest

pub loop-line-preserved : goal.loop-line-preserved
loop-line-preserved c =
    line_on lines_steps {f = trim} c.in-Some.line c.in-Some-next.like c.next.result c.next-in-loop-line.result c.loop-line.invariant c.in-Some.is c.in-Some-next.is c.next.ensures.steps c.next-in-loop-line.ensures.steps
    (sym c.trim.ensures.trim ∙ c.are_alike.ensures c.if-not-are_alike.false ∙ c.trim-in-loop-line.ensures.trim)

pub returns-in-None-next : goal.returns-in-None-next
returns-in-None-next c = λ _. lines_end lines_steps {f = trim} c.next.result c.next-2.result c.loop-line.invariant c.in-None.is c.in-None-next.is c.next.ensures.steps c.next-2.ensures.steps
