use Rattle.std.proofs.Common.{[], ◌∷◌, subst, arith}
use Rattle.tokens.specs.Scanned.{Passed}
use Rattle.regular_expressions.proofs.SlashSteps.{InLiteral, literal_slash, literal_flag, literal_goes_on, literal_none}
use Rattle.regular_expressions.proofs.literal.last_slash.Goals as goal

pub loop-step-preserved-in-47 : goal.loop-step-preserved-in-47
loop-step-preserved-in-47 c =
    literal_slash c.args.text.now c.args.from c.loop-step.end c.in-Some.step.end c.loop-step.slash c.loop-step.has_u c.loop-step.invariant
    (subst (λ x. Passed c.args.text.now c.loop-step.end c.in-Some.step.end (x ∷ [])) c.in-47.is c.in-Some.ensures.some)

pub loop-step-preserved-in-u : goal.loop-step-preserved-in-u
loop-step-preserved-in-u c =
    literal_flag c.args.text.now c.args.from c.loop-step.end c.in-Some.step.end c.loop-step.slash c.loop-step.has_u c.loop-step.invariant
    (subst (λ x. Passed c.args.text.now c.loop-step.end c.in-Some.step.end (x ∷ [])) c.in-u.is c.in-Some.ensures.some)

pub loop-step-preserved : goal.loop-step-preserved
loop-step-preserved c =
    literal_goes_on c.args.text.now c.args.from c.loop-step.end c.in-Some.step.end c.in-Some.step.c c.loop-step.slash c.loop-step.has_u c.loop-step.invariant c.in-Some.ensures.some (omega arith) (omega arith)

pub returns-in-None-clause-none : goal.returns-in-None-clause-none
returns-in-None-clause-none c =
    literal_none c.args.text.now c.args.from c.loop-step.end c.loop-step.has_u (subst (λ s. InLiteral c.args.text.now c.args.from c.loop-step.end s c.loop-step.has_u) c.in-None.is c.loop-step.invariant) c.in_default.ensures.none
