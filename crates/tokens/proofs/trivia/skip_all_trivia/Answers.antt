use Rattle.tokens.proofs.TriviaSteps.{gap_goes_on, gap_joins, gap_shrinks}
use Rattle.tokens.proofs.trivia.skip_all_trivia.Goals as goal

pub loop-next-preserved : goal.loop-next-preserved
loop-next-preserved c =
    gap_joins c.args.text.now c.args.at c.in-Some.next.end c.blanks-more.result.end _ c.blanks-more.result.has_line_break
    (gap_goes_on c.args.text.now c.args.at c.loop-next.gap.end c.in-Some.next.end c.loop-next.gap.has_line_break c.in-Some.next.has_line_break c.loop-next.invariant c.in-Some.ensures.some)
    c.blanks-more.ensures

pub loop-next-smaller : goal.loop-next-smaller
loop-next-smaller c = gap_shrinks c.args.text.now c.loop-next.gap.end c.in-Some.next.end c.blanks-more.result.end c.blanks-more.result.has_line_break c.in-Some.ensures.forward c.blanks-more.ensures
