use Rattle.std.proofs.Common.{sym, subst, rules}
use Rattle.tokens.proofs.LiteralValues.{InUnits, units_begin, units_go_on}
use Rattle.tokens.proofs.value.units.Goals as goal

pub loop-step-init : goal.loop-step-init
loop-step-init c = subst (λ us. InUnits c.args.text.now 0 us) (sym c.in_ok-out.ensures.items) (units_begin c.args.text.now c.utf8.text)

pub loop-step-preserved : goal.loop-step-preserved
loop-step-preserved c =
    subst (λ us. InUnits c.args.text.now c.in-Some-character_value.character_value.end us) (sym c.in_ok-push_units.ensures)
    (units_go_on c.args.text.now c.loop-step.at c.in-Some.step.end c.in-Some.step.c c.in-Some-character_value.character_value c.loop-step.out.items c.loop-step.invariant c.in-Some.ensures.some c.in-Some-character_value.ensures.some)

pub returns-in_default-character_value : goal.returns-in_default-character_value
returns-in_default-character_value c = search rules
