use Rattle.std.proofs.Common.{sym, ◌∙◌, ◌<◌, ◌≤◌, subst}
use Rattle.tree.specs.Node.{node_tree}
use Rattle.tree.specs.Tree.{parts_of}
use Rattle.flow_rules.proofs.LabelLemmas.{value-found, value-turn, value-gap, value-end}
use Rattle.flow_rules.proofs.around.has_value.Goals as goal
use Rattle.flow_rules.proofs.around.has_value.Goals.{in-Some+else-gives_value, in_default}

pub returns-then-gives_value : goal.returns-then-gives_value
returns-then-gives_value c = value-found (parts_of (node_tree c.args.node)) c.loop-index.index _ c.loop-index.invariant (node_tree c.in-Some.part) c.in-Some.ensures (sym c.gives_value.ensures ∙ c.if-gives_value.true)

pub loop-index-preserved : goal.loop-index-preserved
loop-index-preserved c =
    let ps = parts_of (node_tree c.args.node) in
    elim c.match-part.branch [
      | in-Some+else-gives_value w ↦ value-turn ps c.loop-index.index _ c.loop-index.invariant (node_tree w.in-Some.part) w.in-Some.ensures (sym w.gives_value.ensures ∙ w.if-gives_value.false)
      | in_default w ↦ value-gap ps c.loop-index.index _ c.loop-index.invariant w.in_default.ensures (subst (λ n. c.loop-index.index < n) c.part_count-index-end.ensures c.loop-index-test.true)
    ]

pub returns : goal.returns
returns c = value-end (parts_of (node_tree c.args.node)) c.loop-index.index _ c.loop-index.invariant (subst (λ n. n ≤ c.loop-index.index) c.part_count-index-end.ensures c.loop-index-test.false)
