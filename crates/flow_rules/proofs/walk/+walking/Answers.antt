use Rattle.std.proofs.Common.{◌++◌, ◌<◌, ◌≤◌, append_assoc, ap, option_map, subst, sym, ◌∙◌}
use Rattle.tree.specs.Node.{node_tree}
use Rattle.tree.specs.Tree.{parts_of}
use Rattle.flow_rules.specs.Arounds.{behind, inside}
use Rattle.flow_rules.specs.Flows.{flow_of, with_part}
use Rattle.flow_rules.specs.Over.{over_parts}
use Rattle.flow_rules.specs.Rows.{of_rules}
use Rattle.flow_rules.specs.Steps.{around_behind, over_part, sums_behind}
use Rattle.flow_rules.proofs.PlainNodes.{nothing-said, passed-flows}
use Rattle.flow_rules.proofs.SumLemmas.{flow-by-sums}
use Rattle.flow_rules.proofs.WalkLemmas.{folded-end, folded-turn, grows-on, over-end, over-turn, over_nodes-is}
use Rattle.flow_rules.proofs.walk.+walking.Goals as goal

pub push_nodes-loop-index-preserved : goal.push_nodes-loop-index-preserved
push_nodes-loop-index-preserved t c =
    let f = of_rules c.args.walk.now.source.now c.args.walk.now.rules.now in
    let ps = parts_of (node_tree c.args.node) in
    let o = option_map node_tree c.part.result in
    let l = subst (λ n. c.loop-index.index < n) c.part_count-index-end.ensures c.loop-index-test.true in
    record {
      found = over-turn f c.loop-index.before.around c.push_part.new.before.around ps c.loop-index.index o c.loop-index.out.items c.push_part.new.out.items _ l c.part.ensures c.in_ok-push_part.ensures.around c.in_ok-push_part.ensures.found c.loop-index.invariant.found;
      sums = folded-turn c.loop-index.before.around c.push_part.new.before.around c.loop-index.before.sums c.push_part.new.before.sums _ ps c.loop-index.index o l c.part.ensures c.in_ok-push_part.ensures.around c.in_ok-push_part.ensures.sums c.loop-index.invariant.sums;
      kept = grows-on c.args.out.now.items c.loop-index.out.items c.push_part.new.out.items c.loop-index.invariant.kept c.in_ok-push_part.ensures.kept;
    }

pub push_nodes-returns-clause-flow : goal.push_nodes-returns-clause-flow
push_nodes-returns-clause-flow t c =
    let tree = node_tree c.args.node in
    let past = subst (λ n. n ≤ c.loop-index.index) c.part_count-index-end.ensures c.loop-index-test.false in
    c.flow_by-flow.ensures ∙ flow-by-sums tree c.loop-index.before.sums (folded-end c.loop-index.before.around.place c.loop-index.before.sums _ (parts_of tree) c.loop-index.index past c.loop-index.invariant.sums)

pub push_nodes-returns-clause-found : goal.push_nodes-returns-clause-found
push_nodes-returns-clause-found t c =
    let f = of_rules c.args.walk.now.source.now c.args.walk.now.rules.now in
    let tree = node_tree c.args.node in
    let z = c.args.around.now in
    let past = subst (λ n. n ≤ c.loop-index.index) c.part_count-index-end.ensures c.loop-index-test.false in
    let known = c.flow_by-flow.ensures ∙ flow-by-sums tree c.loop-index.before.sums (folded-end c.loop-index.before.around.place c.loop-index.before.sums _ (parts_of tree) c.loop-index.index past c.loop-index.invariant.sums) in
    c.in_ok-push_each.ensures.found ∙ ap (λ x. c.loop-index.out.items ++ f z x tree) known
    ∙ ap (λ x. x ++ f z (flow_of tree) tree) (over-end f c.loop-index.before.around (parts_of tree) c.loop-index.index c.loop-index.out.items _ past c.loop-index.invariant.found)
    ∙ append_assoc c.args.out.now.items (over_parts f (inside z tree) (parts_of tree)) (f z (flow_of tree) tree)
    ∙ ap (λ x. c.args.out.now.items ++ x) (sym (over_nodes-is f z tree))

pub push_part-returns-then-is_passed-clause-around : goal.push_part-returns-then-is_passed-clause-around
push_part-returns-then-is_passed-clause-around t c =
    let z = c.args.before.now.around in
    c.pass.ensures.around ∙ ap (λ flow. behind z flow (node_tree c.in-Some.part)) (c.plain.ensures ∙ passed-flows z (node_tree c.in-Some.part) (c.is_passed.ensures c.if-is_passed.true))
    ∙ ap (λ part. around_behind z (option_map node_tree part)) (sym c.in-Some.is)

pub push_part-returns-then-is_passed-clause-sums : goal.push_part-returns-then-is_passed-clause-sums
push_part-returns-then-is_passed-clause-sums t c =
    let z = c.args.before.now.around in
    let sums = c.args.before.now.sums in
    c.pass.ensures.sums ∙ ap (λ flow. with_part sums z.place flow (node_tree c.in-Some.part)) (c.plain.ensures ∙ passed-flows z (node_tree c.in-Some.part) (c.is_passed.ensures c.if-is_passed.true))
    ∙ ap (λ part. sums_behind z sums (option_map node_tree part)) (sym c.in-Some.is)

pub push_part-returns-then-is_passed-clause-found : goal.push_part-returns-then-is_passed-clause-found
push_part-returns-then-is_passed-clause-found t c =
    let f = of_rules c.args.walk.now.source.now c.args.walk.now.rules.now in
    let z = c.args.before.now.around in
    nothing-said c.args.walk.now.source.now c.args.walk.now.rules.now z (node_tree c.in-Some.part) c.args.out.now.items (c.is_passed.ensures c.if-is_passed.true)
    ∙ ap (λ part. c.args.out.now.items ++ over_part f z (option_map node_tree part)) (sym c.in-Some.is)
