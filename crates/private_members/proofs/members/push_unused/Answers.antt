use Rattle.std.proofs.Common.{◌<◌, ◌≤◌, subst, ap, ◌∙◌}
use Rattle.tree.specs.Node.{node_tree}
use Rattle.tree.specs.Tree.{parts_of, part_at, part_count}
use Rattle.name_tables.proofs.EachPart.{push-turn, push-end}
use Rattle.private_members.specs.Found.{of_member}
use Rattle.private_members.specs.Sets.{is_known}
use Rattle.private_members.proofs.Walks.{grown}
use Rattle.private_members.proofs.members.push_unused.Goals as goal

pub loop-index-preserved : goal.loop-index-preserved
loop-index-preserved c =
    let i = c.loop-index.index in
    record {
      found = push-turn (of_member (is_known c.args.names.now)) (parts_of (node_tree c.args.body)) i _ c.loop-index.out.items c.push_member.new.out.items _
          (subst (λ n. i < n) (c.len-index-end.ensures ∙ ap part_count c.parts-parts.ensures) c.loop-index-test.true) (c.get.ensures ∙ ap (λ q. part_at q i) c.parts-parts.ensures) c.in_ok-push_member.ensures.found c.loop-index.invariant.found;
      kept = grown c.args.out.now.items c.loop-index.out.items c.push_member.new.out.items c.loop-index.invariant.kept c.in_ok-push_member.ensures.kept;
    }

pub returns-clause-found : goal.returns-clause-found
returns-clause-found c =
    push-end (of_member (is_known c.args.names.now)) (parts_of (node_tree c.args.body)) c.loop-index.index c.loop-index.out.items _
    (subst (λ n. n ≤ c.loop-index.index) (c.len-index-end.ensures ∙ ap part_count c.parts-parts.ensures) c.loop-index-test.false) c.loop-index.invariant.found
