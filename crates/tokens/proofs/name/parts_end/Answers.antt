use Rattle.std.proofs.Common.{sym, ◌∙◌}
use Rattle.tokens.specs.Alphabet.{is_identifier_part}
use Rattle.tokens.proofs.TriviaSteps.{all_goes_on, all_shrinks}
use Rattle.tokens.proofs.Names.{parts_joined}
use Rattle.tokens.proofs.name.parts_end.Goals as goal

pub loop-step-preserved : goal.loop-step-preserved
loop-step-preserved c =
    parts_joined c.args.text.now c.args.at c.in-Some.step.end c.ascii_parts_end-end-in-Some.result
    (all_goes_on is_identifier_part c.args.text.now c.args.at c.loop-step.end c.in-Some.step.end c.in-Some.step.c c.loop-step.invariant c.in-Some.ensures.some
    (sym c.is_part.ensures ∙ c.if-not-is_part.false))
    c.ascii_parts_end-end-in-Some.ensures.run

pub loop-step-smaller : goal.loop-step-smaller
loop-step-smaller c = all_shrinks c.args.text.now c.loop-step.end c.in-Some.step.end c.ascii_parts_end-end-in-Some.result c.in-Some.ensures.within.0 c.ascii_parts_end-end-in-Some.ensures.run
