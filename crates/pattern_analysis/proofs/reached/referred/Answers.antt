use Rattle.std.proofs.Common.{Some, reverse, sym, ap, ◌∙◌}
use Rattle.pattern_analysis.specs.UselessReferences.{is_missed}
use Rattle.pattern_analysis.specs.ReadReferences.{reached_as}
use Rattle.pattern_analysis.proofs.MarkOrder.{around_rises}
use Rattle.pattern_analysis.proofs.ReferenceSteps.{reference_misses, reference_holds, reference_waits}
use Rattle.pattern_analysis.proofs.reached.referred.Goals as goal

pub returns-then-is_missed-clause-next : goal.returns-then-is_missed-clause-next
returns-then-is_missed-clause-next c = λ o.
    let kept = c.args.kept.now in
    let up = around_rises c.args.reached.frame c.args.reached.count c.args.around.now kept o in
    sym (reference_misses c.args.groups c.in-Some.number _ (reached_as c.args.reached (reverse c.args.around.now) kept) c.in-Some.ensures.some c.in-Some.ensures.within c.if-number-reached.true
    (sym (ap (λ f. is_missed c.in-Some.number f kept) (c.holding.ensures up)) ∙ sym (c.is_missed.ensures o.rising) ∙ c.if-is_missed.true))

pub returns-then-number-reached-clause-next : goal.returns-then-number-reached-clause-next
returns-then-number-reached-clause-next c = λ o.
    let kept = c.args.kept.now in
    let up = around_rises c.args.reached.frame c.args.reached.count c.args.around.now kept o in
    sym (reference_holds c.args.groups c.in-Some.number _ (reached_as c.args.reached (reverse c.args.around.now) kept) c.in-Some.ensures.some c.in-Some.ensures.within c.if-number-reached.true
    (sym (ap (λ f. is_missed c.in-Some.number f kept) (c.holding.ensures up)) ∙ sym (c.is_missed.ensures o.rising) ∙ c.if-is_missed.false))

pub returns-clause-next : goal.returns-clause-next
returns-clause-next c = λ o.
    let around = reverse c.args.around.now in
    let kept = c.args.kept.now in
    ap (λ r. Some r) (c.awaiting.ensures.next around kept)
    ∙ sym (reference_waits c.args.groups c.in-Some.number _ (reached_as c.args.reached around kept) c.in-Some.ensures.some c.in-Some.ensures.within c.if-number-reached.false c.if-not-reached.false)
