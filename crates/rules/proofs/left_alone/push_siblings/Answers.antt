use Rattle.std.proofs.Common.{◌≤◌, ◌<◌, subst, ap, ◌∙◌}
use Rattle.tree.specs.Node.{node_tree}
use Rattle.tree.specs.Tree.{parts_of, part_at, part_count}
use Rattle.name_tables.proofs.EachPart.{push-turn, push-end}
use Rattle.rules.specs.LeftAlone.{sibling}
use Rattle.rules.proofs.left_alone.push_siblings.Goals as goal

pub loop-index-preserved : goal.loop-index-preserved
loop-index-preserved c =
    let ps = parts_of (node_tree c.args.node) in
    let i = c.loop-index.index in
    push-turn sibling ps i _ c.loop-index.starts.items c.push_sibling.new.starts.items _
    (subst (λ n. i < n) (c.len-index-end.ensures ∙ ap part_count c.parts-parts.ensures) c.loop-index-test.true) (c.get.ensures ∙ ap (λ q. part_at q i) c.parts-parts.ensures) c.in_ok-push_sibling.ensures c.loop-index.invariant

pub returns : goal.returns
returns c =
    push-end sibling (parts_of (node_tree c.args.node)) c.loop-index.index c.loop-index.starts.items _
    (subst (λ n. n ≤ c.loop-index.index) (c.len-index-end.ensures ∙ ap part_count c.parts-parts.ensures) c.loop-index-test.false) c.loop-index.invariant
