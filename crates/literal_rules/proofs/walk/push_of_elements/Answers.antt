use Rattle.std.proofs.Common.{◌≤◌, ◌<◌, subst, ap, ◌∙◌}
use Rattle.tree.specs.Node.{node_tree}
use Rattle.tree.specs.Tree.{parts_of, part_at, part_count}
use Rattle.name_tables.proofs.EachPart.{push-turn, push-end}
use Rattle.literal_rules.specs.Found.{of_element}
use Rattle.literal_rules.proofs.Passes.{grown}
use Rattle.literal_rules.proofs.walk.push_of_elements.Goals as goal

pub loop-index-preserved : goal.loop-index-preserved
loop-index-preserved c =
    let ps = parts_of (node_tree c.args.template) in
    let i = c.loop-index.index in
    record {
      found = push-turn (of_element c.args.rule) ps i _ c.loop-index.out.items c.push_of_element.new.out.items _ (subst (λ n. i < n) (c.len-index-end.ensures ∙ ap part_count c.parts-parts.ensures) c.loop-index-test.true)
          (c.get.ensures ∙ ap (λ q. part_at q i) c.parts-parts.ensures) c.in_ok-push_of_element.ensures.found c.loop-index.invariant.found;
      kept = grown c.args.out.now.items c.loop-index.out.items c.push_of_element.new.out.items c.loop-index.invariant.kept c.in_ok-push_of_element.ensures.kept;
    }

pub returns-clause-found : goal.returns-clause-found
returns-clause-found c =
    push-end (of_element c.args.rule) (parts_of (node_tree c.args.template)) c.loop-index.index c.loop-index.out.items _
    (subst (λ n. n ≤ c.loop-index.index) (c.len-index-end.ensures ∙ ap part_count c.parts-parts.ensures) c.loop-index-test.false) c.loop-index.invariant.found
