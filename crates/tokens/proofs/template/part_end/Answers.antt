use Rattle.tokens.proofs.Parts.{part_starts, part_goes_on, part_closes, part_lacks}
use Rattle.tokens.proofs.template.part_end.Goals as goal

pub loop-step-init : goal.loop-step-init
loop-step-init c = part_starts c.args.text.now c.args.at c.requires

pub returns-then-taken-closes-clause-some : goal.returns-then-taken-closes-clause-some
returns-then-taken-closes-clause-some c =
    part_closes c.args.text.now c.args.at c.loop-step.end c.in-Some.step.end c.in-Some.step.c c.loop-step.taken c.loop-step.dollar c.loop-step.invariant c.in-Some.ensures.some c.if-taken-closes.true

pub loop-step-preserved : goal.loop-step-preserved
loop-step-preserved c =
    part_goes_on c.args.text.now c.args.at c.loop-step.end c.in-Some.step.end c.in-Some.step.c c.loop-step.taken c.loop-step.dollar c.loop-step.invariant c.in-Some.ensures.some c.if-taken-closes.false

pub returns-clause-none : goal.returns-clause-none
returns-clause-none c = part_lacks c.args.text.now c.args.at c.loop-step.end c.loop-step.taken c.loop-step.dollar c.loop-step.invariant c.in_default.ensures.none
