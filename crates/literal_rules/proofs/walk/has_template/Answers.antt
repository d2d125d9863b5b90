use Rattle.std.proofs.Common.{sym, ap, ◌∙◌, ◌<◌, ◌≤◌, subst}
use Rattle.tree.specs.Node.{node_tree}
use Rattle.tree.specs.Tree.{parts_of}
use Rattle.literal_rules.specs.Found.{is_template}
use Rattle.literal_rules.proofs.BareNodes.{template-end, template-found, template-gap, template-turn}
use Rattle.literal_rules.proofs.walk.has_template.Goals as goal
use Rattle.literal_rules.proofs.walk.has_template.Goals.{in-Some+else-is_template, in_default}

pub returns-then-is_template : goal.returns-then-is_template
returns-then-is_template c =
    template-found (parts_of (node_tree c.args.node)) c.loop-index.index _ c.loop-index.invariant (node_tree c.in-Some.part) c.in-Some.ensures
    (sym (ap is_template c.kind.ensures) ∙ sym c.is_template.ensures ∙ c.if-is_template.true)

pub loop-index-preserved : goal.loop-index-preserved
loop-index-preserved c =
    let ps = parts_of (node_tree c.args.node) in
    elim c.match-part.branch [
      | in-Some+else-is_template w ↦ template-turn ps c.loop-index.index _ c.loop-index.invariant (node_tree w.in-Some.part) w.in-Some.ensures (sym (ap is_template w.kind.ensures) ∙ sym w.is_template.ensures ∙ w.if-is_template.false)
      | in_default w ↦ template-gap ps c.loop-index.index _ c.loop-index.invariant w.in_default.ensures (subst (λ n. c.loop-index.index < n) c.part_count-index-end.ensures c.loop-index-test.true)
    ]

pub returns : goal.returns
returns c = template-end (parts_of (node_tree c.args.node)) c.loop-index.index _ c.loop-index.invariant (subst (λ n. n ≤ c.loop-index.index) c.part_count-index-end.ensures c.loop-index-test.false)
