use Rattle.std.proofs.Common.{◌<◌, ◌≤◌, subst}
use Rattle.tree.specs.Node.{list_parts, node_tree}
use Rattle.node_rules.proofs.SilentLemmas.{silent-end, silent-gap, silent-turn}
use Rattle.node_rules.proofs.walk.are_passed.Goals as goal
use Rattle.node_rules.proofs.walk.are_passed.Goals.{in-Some+else-not-is_passed, in_default}

pub loop-index-preserved : goal.loop-index-preserved
loop-index-preserved c =
    let ps = list_parts c.args.parts in
    let due = c.args.due.now in
    elim c.match-get.branch [
      | in-Some+else-not-is_passed w ↦ silent-turn due ps c.loop-index.index c.loop-index.invariant (node_tree w.in-Some.part) w.in-Some.ensures (w.is_passed.ensures w.if-not-is_passed.false)
      | in_default w ↦ silent-gap due ps c.loop-index.index c.loop-index.invariant w.in_default.ensures (subst (λ n. c.loop-index.index < n) c.len-index-end.ensures c.loop-index-test.true)
    ]

pub returns : goal.returns
returns c _ = silent-end c.args.due.now (list_parts c.args.parts) c.loop-index.index c.loop-index.invariant (subst (λ n. n ≤ c.loop-index.index) c.len-index-end.ensures c.loop-index-test.false)
