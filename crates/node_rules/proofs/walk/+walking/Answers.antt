use Rattle.std.proofs.Common.{refl, sym, ap, ◌∙◌, ◌++◌, ◌<◌, ◌≤◌, ◌+◌, subst, append_assoc, append-nil}
use Rattle.tree.specs.Node.{node_tree}
use Rattle.tree.specs.Tree.{parts_drop, parts_of}
use Rattle.rule_words.specs.Appends.{Grows}
use Rattle.rule_words.proofs.Results.{on_ok}
use Rattle.node_rules.specs.Arounds.{at_place, inside}
use Rattle.node_rules.specs.Due.{are_silent, of_due}
use Rattle.node_rules.specs.Over.{over_parts}
use Rattle.node_rules.proofs.SilentLemmas.{silent-parts}
use Rattle.node_rules.proofs.WalkLemmas.{grows-on, over_nodes-is, over-end, over-gap, over-given}
use Rattle.node_rules.proofs.walk.+walking.Goals as goal
use Rattle.node_rules.proofs.walk.+walking.Goals.{push_below-in-Some+in_ok-push_nodes, push_below-in_default}

-- the walk passes by all parts
pub push_nodes-returns-then-are_passed-clause-found : goal.push_nodes-returns-then-are_passed-clause-found
push_nodes-returns-then-are_passed-clause-found t c =
    let f = of_due c.args.walk.now.options c.args.walk.now.source.now c.args.walk.now.due.now in
    let t = node_tree c.args.node in
    let a = at_place c.args.around.now c.args.place in
    let silent = ap (are_silent c.args.walk.now.due.now) (sym c.parts.ensures) ∙ c.are_passed.ensures c.if-are_passed.true in
    c.in_ok-push_due.ensures.found
    ∙ ap (λ l. c.args.out.now.items ++ l)
    (sym (over_nodes-is f a t ∙ ap (λ l. f a t ++ l) (silent-parts c.args.walk.now.options c.args.walk.now.source.now c.args.walk.now.due.now (inside a t) 0 (parts_of t) silent) ∙ append-nil (f a t)))

pub push_nodes-returns-clause-found : goal.push_nodes-returns-clause-found
push_nodes-returns-clause-found t c =
    let f = of_due c.args.walk.now.options c.args.walk.now.source.now c.args.walk.now.due.now in
    let t = node_tree c.args.node in
    let a = at_place c.args.around.now c.args.place in
    on_ok c.push_below.result
    (λ h. h ∙ ap (λ x. x ++ over_parts f c.inside-inner.result 0 (parts_of t)) c.in_ok-push_due.ensures.found ∙ append_assoc c.args.out.now.items (f a t) _
    ∙ ap (λ b. c.args.out.now.items ++ (f a t ++ over_parts f b 0 (parts_of t))) c.inside-inner.ensures
    ∙ ap (λ l. c.args.out.now.items ++ l) (sym (over_nodes-is f a t)))
    c.push_below.ensures.found

pub push_below-loop-place-preserved : goal.push_below-loop-place-preserved
push_below-loop-place-preserved t c =
    let f = of_due c.args.walk.now.options c.args.walk.now.source.now c.args.walk.now.due.now in
    let ps = parts_of (node_tree c.args.node) in
    let a = c.args.around.now in
    let i = c.loop-place.place in
    let l = subst (λ n. i < n) c.part_count-place-end.ensures c.loop-place-test.true in
    elim c.match-part.branch [
      | push_below-in-Some+in_ok-push_nodes w ↦ record {
        found = over-given f a _ ps i (node_tree w.in-Some.part) c.loop-place.out.items c.match-part.out.items _ l w.in-Some.ensures refl (ap (λ v. v.items) w.out-is ∙ w.in_ok-push_nodes.ensures.found) c.loop-place.invariant.found;
        kept = grows-on c.args.out.now.items c.loop-place.out.items c.match-part.out.items c.loop-place.invariant.kept (subst (λ v. Grows c.loop-place.out.items v.items) (sym w.out-is) w.in_ok-push_nodes.ensures.kept);
      }
      | push_below-in_default w ↦ record {
        found = ap (λ v. v.items ++ over_parts f a (i + 1) (parts_drop (i + 1) ps)) w.out-is ∙ over-gap f a ps i c.loop-place.out.items _ l w.in_default.ensures c.loop-place.invariant.found;
        kept = subst (λ v. Grows c.args.out.now.items v.items) (sym w.out-is) c.loop-place.invariant.kept;
      }
    ]

pub push_below-returns-clause-found : goal.push_below-returns-clause-found
push_below-returns-clause-found t c =
    over-end (of_due c.args.walk.now.options c.args.walk.now.source.now c.args.walk.now.due.now) c.args.around.now (parts_of (node_tree c.args.node)) c.loop-place.place c.loop-place.out.items _ (subst (λ n. n ≤ c.loop-place.place) c.part_count-place-end.ensures c.loop-place-test.false) c.loop-place.invariant.found
