use Rattle.std.proofs.Common.{[], ◌∷◌, subst}
use Rattle.tokens.specs.Scanned.{Passed}
use Rattle.regular_expressions.specs.Scanned.{ranges_as}
use Rattle.regular_expressions.proofs.ClassSteps.{class_begins, class_goes_on, class_closes, class_stops, class_ends}
use Rattle.regular_expressions.proofs.class.ranges_end.Goals as goal

pub loop-step-init : goal.loop-step-init
loop-step-init c = class_begins c.args.is_unicode c.args.text.now c.args.at c.requires

pub returns-then-step-eq93-clause-some : goal.returns-then-step-eq93-clause-some
returns-then-step-eq93-clause-some c =
    class_closes c.args.is_unicode c.args.text.now c.args.at c.loop-step.end c.in-Some.step.end (ranges_as c.loop-step.ranges) c.loop-step.invariant
    (subst (λ x. Passed c.args.text.now c.loop-step.end c.in-Some.step.end (x ∷ [])) c.if-step-eq93.true c.in-Some.ensures.some)

pub returns-in_default-ranges_step-clause-none : goal.returns-in_default-ranges_step-clause-none
returns-in_default-ranges_step-clause-none c =
    class_stops c.args.is_unicode c.args.text.now c.args.at c.loop-step.end c.in-Some.step.end c.in-Some.step.c (ranges_as c.loop-step.ranges) c.loop-step.invariant c.in-Some.ensures.some c.in_default-ranges_step.ensures.none

pub loop-step-preserved : goal.loop-step-preserved
loop-step-preserved c =
    class_goes_on c.args.is_unicode c.args.text.now c.args.at c.loop-step.end c.in-Some.step.end c.in-Some-ranges_step.next.end c.in-Some.step.c (ranges_as c.loop-step.ranges) (ranges_as c.in-Some-ranges_step.next.ranges)
    c.loop-step.invariant c.in-Some.ensures.some c.in-Some-ranges_step.ensures.some

pub returns-clause-none : goal.returns-clause-none
returns-clause-none c = class_ends c.args.is_unicode c.args.text.now c.args.at c.loop-step.end (ranges_as c.loop-step.ranges) c.loop-step.invariant c.in_default.ensures.none
