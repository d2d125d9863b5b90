use Rattle.std.proofs.Common.{[], ◌∷◌, subst}
use Rattle.std.proofs.lemmas.Str.{IsCharBoundary-start}
use Rattle.tokens.specs.Scanned.{Passed}
use Rattle.regular_expressions.proofs.NameSteps.{plain_begins, plain_goes_on, plain_ends, plain_stops}
use Rattle.regular_expressions.proofs.name.has_escape.Goals as goal

pub loop-step-init : goal.loop-step-init
loop-step-init c = plain_begins c.args.word.now (IsCharBoundary-start c.args.word.now c.utf8.word)

pub returns-then-step-eq92 : goal.returns-then-step-eq92
returns-then-step-eq92 c =
    plain_stops c.args.word.now c.loop-step.at c.in-Some.step.end c.loop-step.invariant
    (subst (λ x. Passed c.args.word.now c.loop-step.at c.in-Some.step.end (x ∷ [])) c.if-step-eq92.true c.in-Some.ensures.some)

pub loop-step-preserved : goal.loop-step-preserved
loop-step-preserved c = plain_goes_on c.args.word.now c.loop-step.at c.in-Some.step.end c.in-Some.step.c c.loop-step.invariant c.in-Some.ensures.some c.if-step-eq92.false

pub returns : goal.returns
returns c = plain_ends c.args.word.now c.loop-step.at c.loop-step.invariant c.in_default.ensures.none
