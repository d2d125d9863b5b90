use Rattle.std.proofs.Common.{◌≡◌, reverse, sym, ap, ◌∙◌, arith}
use Rattle.std.proofs.lemmas.Result.{IfOk-weaker}
use Rattle.pattern_analysis.specs.UselessReferences.{in_frame, opened}
use Rattle.pattern_analysis.specs.ReadReferences.{reached_as}
use Rattle.pattern_analysis.proofs.reached.in_frame.Goals as goal

pub returns-in-Grouping-clause-next : goal.returns-in-Grouping-clause-next
returns-in-Grouping-clause-next c =
    let z = reached_as c.args.reached (reverse c.args.around.now.items) c.args.kept.now.items in
    IfOk-weaker c.opened.result _ _ (λ r h. h c.args.kept.now.items ∙ ap (opened z) c.group.ensures ∙ sym (ap (in_frame z) c.in-Grouping.is)) c.opened.ensures.next

pub returns-in-Grouping-clause-order : goal.returns-in-Grouping-clause-order
returns-in-Grouping-clause-order c =
    IfOk-weaker c.opened.result _ _
    (λ r h o.
    let first : c.group.result.first ≡ c.args.reached.count = ap (λ f. f.first) c.group.ensures in
    let b = o.begun in
    h c.args.kept.now.items o (omega (arith, first, b)) (omega (arith, first))) c.opened.ensures.order

pub returns-in-Lookahead-clause-next : goal.returns-in-Lookahead-clause-next
returns-in-Lookahead-clause-next c =
    let z = reached_as c.args.reached (reverse c.args.around.now.items) c.args.kept.now.items in
    IfOk-weaker c.opened-in-Lookahead.result _ _ (λ r h. h c.args.kept.now.items ∙ ap (opened z) c.lookaround.ensures ∙ sym (ap (in_frame z) c.in-Lookahead.is)) c.opened-in-Lookahead.ensures.next

pub returns-in-Lookahead-clause-order : goal.returns-in-Lookahead-clause-order
returns-in-Lookahead-clause-order c =
    IfOk-weaker c.opened-in-Lookahead.result _ _
    (λ r h o.
    let first : c.lookaround.result.first ≡ c.args.reached.count = ap (λ f. f.first) c.lookaround.ensures in
    let b = o.begun in
    h c.args.kept.now.items o (omega (arith, first, b)) (omega (arith, first))) c.opened-in-Lookahead.ensures.order

pub returns-in-Lookbehind-clause-next : goal.returns-in-Lookbehind-clause-next
returns-in-Lookbehind-clause-next c =
    let z = reached_as c.args.reached (reverse c.args.around.now.items) c.args.kept.now.items in
    IfOk-weaker c.opened-in-Lookbehind.result _ _ (λ r h. h c.args.kept.now.items ∙ ap (opened z) c.lookaround-in-Lookbehind.ensures ∙ sym (ap (in_frame z) c.in-Lookbehind.is)) c.opened-in-Lookbehind.ensures.next

pub returns-in-Lookbehind-clause-order : goal.returns-in-Lookbehind-clause-order
returns-in-Lookbehind-clause-order c =
    IfOk-weaker c.opened-in-Lookbehind.result _ _
    (λ r h o.
    let first : c.lookaround-in-Lookbehind.result.first ≡ c.args.reached.count = ap (λ f. f.first) c.lookaround-in-Lookbehind.ensures in
    let b = o.begun in
    h c.args.kept.now.items o (omega (arith, first, b)) (omega (arith, first))) c.opened-in-Lookbehind.ensures.order
