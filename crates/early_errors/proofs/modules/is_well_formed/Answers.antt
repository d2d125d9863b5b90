use Rattle.std.proofs.Common.{◌+◌, drop, get_or, sym, ap, ◌∙◌}
use Rattle.std.proofs.lemmas.List.{drop_more, drop_all}
use Rattle.early_errors.specs.ExportsRead.{goes_on_well}
use Rattle.early_errors.proofs.Exports.{begins_well, halves-differ, halves-go_on, tests_differ, tests_same}
use Rattle.early_errors.proofs.modules.is_well_formed.Goals as goal

pub loop-unit-init : goal.loop-unit-init
loop-unit-init c = begins_well c.args.units.now

pub loop-unit-preserved : goal.loop-unit-preserved
loop-unit-preserved c =
    let us = c.args.units.now in
    let i = c.loop-unit.unit-index in
    ap (λ b. goes_on_well b (drop (i + 1) us)) c.is_high-awaits_low.ensures
    ∙ sym (ap (goes_on_well c.loop-unit.awaits_low) (drop_more us i 0 c.loop-unit-test.true)
    ∙ halves-go_on c.loop-unit.awaits_low (get_or us i 0) (drop (i + 1) us) (sym c.is_low.ensures ∙ tests_same c.is_low.result c.loop-unit.awaits_low c.if-is_low-awaits_low.false))
    ∙ c.loop-unit.invariant

pub returns-then-is_low-awaits_low : goal.returns-then-is_low-awaits_low
returns-then-is_low-awaits_low c =
    let us = c.args.units.now in
    let i = c.loop-unit.unit-index in
    sym (ap (goes_on_well c.loop-unit.awaits_low) (drop_more us i 0 c.loop-unit-test.true)
    ∙ halves-differ c.loop-unit.awaits_low (get_or us i 0) (drop (i + 1) us) (sym c.is_low.ensures ∙ tests_differ c.is_low.result c.loop-unit.awaits_low c.if-is_low-awaits_low.true))
    ∙ c.loop-unit.invariant

pub returns : goal.returns
returns c = ap (goes_on_well c.loop-unit.awaits_low) (sym (drop_all c.loop-unit.unit-index c.args.units.now c.loop-unit-test.false)) ∙ c.loop-unit.invariant
