use Rattle.std.proofs.Common.{◌||◌, ◌==◌, sym, subst}
use Rattle.tokens.specs.Scanned.{IsBlockRest}
use Rattle.tokens.proofs.TriviaSteps.{InBlock, block_begins, block_goes_on, block_plain, block_closes, block_ends, all_shrinks}
use Rattle.tokens.proofs.trivia.block_rest.Goals as goal

pub loop-step-init : goal.loop-step-init
loop-step-init c = block_begins c.args.text.now c.args.at c.requires

pub loop-step-preserved : goal.loop-step-preserved
loop-step-preserved c =
    block_plain c.args.text.now c.args.at c.in-Some.step.end c.plain_unless.result _ (c.in-Some.step.c == 42)
    (subst (λ b. InBlock c.args.text.now c.args.at c.in-Some.step.end (c.loop-step.gap.has_line_break || b) (c.in-Some.step.c == 42)) (sym c.is_line_terminator.ensures)
    (block_goes_on c.args.text.now c.args.at c.loop-step.gap.end c.in-Some.step.end c.in-Some.step.c c.loop-step.gap.has_line_break c.loop-step.starred c.loop-step.invariant
    c.in-Some.ensures.some c.if-starred-step.false)) c.plain_unless.ensures.plain c.plain_unless.ensures.stays

pub loop-step-smaller : goal.loop-step-smaller
loop-step-smaller c = all_shrinks c.args.text.now c.loop-step.gap.end c.in-Some.step.end c.plain_unless.result c.in-Some.ensures.within.0 c.plain_unless.ensures.plain

pub returns-then-starred-step-clause-some : goal.returns-then-starred-step-clause-some
returns-then-starred-step-clause-some c =
    subst (λ b. IsBlockRest c.args.text.now c.args.at c.in-Some.step.end (c.loop-step.gap.has_line_break || b)) (sym c.is_line_terminator.ensures)
    (block_closes c.args.text.now c.args.at c.loop-step.gap.end c.in-Some.step.end c.in-Some.step.c c.loop-step.gap.has_line_break c.loop-step.starred c.loop-step.invariant
    c.in-Some.ensures.some c.if-starred-step.true)

pub returns-clause-none : goal.returns-clause-none
returns-clause-none c =
    block_ends c.args.text.now c.args.at c.loop-step.gap.end c.loop-step.gap.has_line_break c.loop-step.starred c.loop-step.invariant c.in_default.ensures.none
