use Rattle.std.proofs.Common.{◌<◌, ◌≤◌, subst}
use Rattle.tree.specs.Node.{node_tree}
use Rattle.tree.specs.Tree.{parts_of}
use Rattle.private_members.proofs.Sets.{declared-end, declared-turn}
use Rattle.private_members.proofs.members.declared_names.Goals as goal

pub loop-index-preserved : goal.loop-index-preserved
loop-index-preserved c w =
    let i = c.loop-index.index in
    declared-turn (parts_of (node_tree c.args.body)) i _ w _ _ _ (subst (λ n. i < n) c.part_count-index-end.ensures c.loop-index-test.true) c.part.ensures (c.in_ok-put_name.ensures w) (c.loop-index.invariant w)

pub returns : goal.returns
returns c w =
    let i = c.loop-index.index in
    declared-end (parts_of (node_tree c.args.body)) i w _ _ (subst (λ n. n ≤ i) c.part_count-index-end.ensures c.loop-index-test.false) (c.loop-index.invariant w)
