use Rattle.std.proofs.Common.{◌++◌, Some, reverse, sym, ap, ◌∙◌}
use Rattle.pattern_analysis.specs.UselessReferences.{misses}
use Rattle.pattern_analysis.specs.ReadReferences.{marks_as, reached_as}
use Rattle.pattern_analysis.proofs.MarkOrder.{order_same}
use Rattle.pattern_analysis.proofs.reached.behind.Goals as goal

pub returns-in-Bar-clause-next : goal.returns-in-Bar-clause-next
returns-in-Bar-clause-next c = λ o marks.
    let around = reverse c.args.around.now.items in
    let kept = c.args.kept.now.items in
    ap (λ m. misses c.args.groups (Some (reached_as c.args.reached around kept)) (marks_as m ++ marks)) c.in-Bar.is
    ∙ ap (λ r. misses c.args.groups (Some r) marks) (sym (c.barred.ensures.next around kept))

pub returns-in-Bar-clause-order : goal.returns-in-Bar-clause-order
returns-in-Bar-clause-order c =
    order_same c.args.reached.frame c.barred.result.frame c.args.reached.count c.barred.result.count c.args.around.now.items c.args.kept.now.items c.barred.ensures.first c.barred.ensures.count
