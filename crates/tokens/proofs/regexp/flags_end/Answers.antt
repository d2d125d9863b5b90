use Rattle.std.proofs.Common.{sym, ap, ◌∙◌}
use Rattle.tokens.specs.States.{is_over, expression_of}
use Rattle.tokens.proofs.Expressions.{expression_starts, expression_goes_on, expression_found, expression_found_end, no_expression_here, no_expression_end}
use Rattle.tokens.proofs.regexp.flags_end.Goals as goal

pub loop-step-init : goal.loop-step-init
loop-step-init c = expression_starts c.args.text.now c.args.at c.requires

pub returns-then-has_flags-clause-some : goal.returns-then-has_flags-clause-some
returns-then-has_flags-clause-some c =
    expression_found c.args.text.now c.args.at c.loop-step.end c.in-Some.step.end c.in-Some.step.c (expression_of c.loop-step.part) c.loop-step.invariant c.in-Some.ensures.some
    (ap is_over (sym c.next_regexp_state-next.ensures) ∙ sym c.is_over.ensures ∙ c.if-is_over.true) (sym c.has_flags.ensures ∙ c.if-has_flags.true)

pub returns-else-has_flags-clause-none : goal.returns-else-has_flags-clause-none
returns-else-has_flags-clause-none c =
    no_expression_here c.args.text.now c.args.at c.loop-step.end c.in-Some.step.end c.in-Some.step.c (expression_of c.loop-step.part) c.loop-step.invariant c.in-Some.ensures.some
    (ap is_over (sym c.next_regexp_state-next.ensures) ∙ sym c.is_over.ensures ∙ c.if-is_over.true) (sym c.has_flags.ensures ∙ c.if-has_flags.false)

pub loop-step-preserved : goal.loop-step-preserved
loop-step-preserved c =
    expression_goes_on c.args.text.now c.args.at c.loop-step.end c.in-Some.step.end c.in-Some.step.c (expression_of c.loop-step.part) (expression_of c.next_regexp_state-next.result)
    c.loop-step.invariant c.in-Some.ensures.some c.next_regexp_state-next.ensures (sym c.is_over.ensures ∙ c.if-is_over.false)

pub returns-then-has_flags-2-clause-some : goal.returns-then-has_flags-2-clause-some
returns-then-has_flags-2-clause-some c =
    expression_found_end c.args.text.now c.args.at c.loop-step.end (expression_of c.loop-step.part) c.loop-step.invariant c.in_default.ensures.none (sym c.has_flags-2.ensures ∙ c.if-has_flags-2.true)

pub returns-else-has_flags-2-clause-none : goal.returns-else-has_flags-2-clause-none
returns-else-has_flags-2-clause-none c =
    no_expression_end c.args.text.now c.args.at c.loop-step.end (expression_of c.loop-step.part) c.loop-step.invariant c.in_default.ensures.none (sym c.has_flags-2.ensures ∙ c.if-has_flags-2.false)
