use Rattle.std.proofs.Common.{◌≡◌, ◌+◌, [], ◌∷◌, ◌++◌, reverse, ap, ◌∙◌, arith}
use Rattle.std.proofs.lemmas.Result.{IfOk-weaker}
use Rattle.pattern_analysis.specs.UselessReferences.{opened}
use Rattle.pattern_analysis.specs.ReadReferences.{reached_as}
use Rattle.pattern_analysis.proofs.MarkOrder.{order_numbered}
use Rattle.pattern_analysis.proofs.reached.captured.Goals as goal

pub returns-clause-next : goal.returns-clause-next
returns-clause-next c =
    let z = c.args.reached in
    let number = z.count + 1 in
    let around = reverse c.args.around.now.items in
    let numbered = reached_as (record { frame = z.frame; count = number; awaited = z.awaited }) around in
    IfOk-weaker c.opened.result _ _
    (λ r h. h c.push.new.self.items ∙ ap (λ kept. opened (numbered kept) c.group-frame.result) c.in_ok-push.ensures.items
    ∙ ap (opened (numbered (c.args.kept.now.items ++ number ∷ []))) c.group-frame.ensures) c.opened.ensures.next

pub returns-clause-order : goal.returns-clause-order
returns-clause-order c =
    let z = c.args.reached in
    let number = z.count + 1 in
    IfOk-weaker c.opened.result _ _
    (λ r h o.
    let first : c.group-frame.result.first ≡ z.count = ap (λ f. f.first) c.group-frame.ensures in
    let b = o.begun in
    h c.push.new.self.items (order_numbered z.frame z.count c.args.around.now.items c.args.kept.now.items c.push.new.self.items o c.in_ok-push.ensures.items) (omega (arith, first, b)) (omega (arith, first)))
    c.opened.ensures.order
