use Rattle.std.proofs.Common.{sym, ap, ◌∙◌, ◌<◌, ◌≤◌, subst}
use Rattle.tree.specs.Node.{node_tree}
use Rattle.tree.specs.Tree.{part_at, part_count, parts_of}
use Rattle.repetition_rules.specs.Tests.{is_if}
use Rattle.repetition_rules.proofs.BareNodes.{if-end, if-found, if-gap, if-turn}
use Rattle.repetition_rules.proofs.walk.has_if.Goals as goal
use Rattle.repetition_rules.proofs.walk.has_if.Goals.{in-Some+else-is_if, in_default}

pub returns-then-is_if : goal.returns-then-is_if
returns-then-is_if c =
    let ps = parts_of (node_tree c.args.node) in
    if-found ps c.loop-index.index _ c.loop-index.invariant (node_tree c.in-Some.part) (c.in-Some.ensures ∙ ap (λ q. part_at q c.loop-index.index) c.parts-parts.ensures)
    (sym (ap is_if c.kind.ensures) ∙ sym c.is_if.ensures ∙ c.if-is_if.true)

pub loop-index-preserved : goal.loop-index-preserved
loop-index-preserved c =
    let ps = parts_of (node_tree c.args.node) in
    let i = c.loop-index.index in
    elim c.match-get.branch [
      | in-Some+else-is_if w ↦ if-turn ps i _ c.loop-index.invariant (node_tree w.in-Some.part) (w.in-Some.ensures ∙ ap (λ q. part_at q i) c.parts-parts.ensures) (sym (ap is_if w.kind.ensures) ∙ sym w.is_if.ensures ∙ w.if-is_if.false)
      | in_default w ↦ if-gap ps i _ c.loop-index.invariant (w.in_default.ensures ∙ ap (λ q. part_at q i) c.parts-parts.ensures) (subst (λ n. i < n) (c.len-index-end.ensures ∙ ap part_count c.parts-parts.ensures) c.loop-index-test.true)
    ]

pub returns : goal.returns
returns c =
    let ps = parts_of (node_tree c.args.node) in
    if-end ps c.loop-index.index _ c.loop-index.invariant (subst (λ n. n ≤ c.loop-index.index) (c.len-index-end.ensures ∙ ap part_count c.parts-parts.ensures) c.loop-index-test.false)
