use Rattle.std.proofs.Common.{false, ◌||◌, sym, ◌∙◌, subst}
use Rattle.tokens.specs.Scanned.{IsGap}
use Rattle.tokens.proofs.TriviaSteps.{blank_goes_on, gap_spaces, gap_shrinks}
use Rattle.tokens.proofs.trivia.blanks.Goals as goal

pub loop-step-preserved : goal.loop-step-preserved
loop-step-preserved c =
    gap_spaces c.args.text.now c.args.at c.in-Some.step.end c.spaces_end-in-Some.result _
    (subst (λ b. IsGap c.args.text.now c.args.at c.in-Some.step.end (c.loop-step.gap.has_line_break || b)) (sym c.is_line_terminator.ensures)
    (blank_goes_on c.args.text.now c.args.at c.loop-step.gap.end c.in-Some.step.end c.in-Some.step.c c.loop-step.gap.has_line_break c.loop-step.invariant c.in-Some.ensures.some
    (sym c.is_ascii_blank.ensures ∙ c.if-not-is_ascii_blank.false)))
    c.spaces_end-in-Some.ensures

pub loop-step-smaller : goal.loop-step-smaller
loop-step-smaller c = gap_shrinks c.args.text.now c.loop-step.gap.end c.in-Some.step.end c.spaces_end-in-Some.result false c.in-Some.ensures.within.0 c.spaces_end-in-Some.ensures
