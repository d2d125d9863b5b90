use Rattle.std.proofs.Common.{◌==◌, false, sym, subst}
use Rattle.std.specs.String.{string_bytes}
use Rattle.tokens.proofs.LiteralValues.{InTurned, turned_begins, turned_goes_on}
use Rattle.tokens.proofs.value.turned.Goals as goal

pub loop-step-init : goal.loop-step-init
loop-step-init c = subst (λ bs. InTurned c.args.text.now 0 false bs) (sym c.in_ok-out.ensures.bytes) (turned_begins c.args.text.now c.utf8.text)

pub loop-step-preserved : goal.loop-step-preserved
loop-step-preserved c =
    subst (λ bs. InTurned c.args.text.now c.in-Some.step.end (c.in-Some.step.c == 0xD) bs) (sym c.in_ok-push_turned.ensures)
    (turned_goes_on c.args.text.now c.loop-step.at c.in-Some.step.end c.in-Some.step.c c.loop-step.returned (string_bytes c.loop-step.out) c.loop-step.invariant c.in-Some.ensures.some)
