use Rattle.std.proofs.Common.{sym, ap, ◌∙◌, ◌<◌, ◌≤◌, subst}
use Rattle.tree.specs.Node.{node_tree}
use Rattle.tree.specs.Tree.{parts_of}
use Rattle.flow_rules.specs.Plain.{is_plain_kind}
use Rattle.flow_rules.proofs.PlainNodes.{by-parts, plain-end, plain-failed, plain-gap, plain-turn, wrong-kind}
use Rattle.flow_rules.proofs.plain.+is_plain.Goals as goal
use Rattle.flow_rules.proofs.plain.+is_plain.Goals.{in-Some+else-not-is_plain, in_default}

pub returns-then-not-is_plain_kind : goal.returns-then-not-is_plain_kind
returns-then-not-is_plain_kind t c = wrong-kind (node_tree c.args.node) (sym (ap is_plain_kind c.kind.ensures) ∙ sym c.is_plain_kind.ensures ∙ c.if-not-is_plain_kind.true)

pub returns-then-not-is_plain : goal.returns-then-not-is_plain
returns-then-not-is_plain t c =
    plain-failed (parts_of (node_tree c.args.node)) c.loop-index.index _ c.loop-index.invariant (node_tree c.in-Some.part) c.in-Some.ensures (sym c.is_plain.ensures ∙ c.if-not-is_plain.true)
    ∙ by-parts (node_tree c.args.node) (sym (ap is_plain_kind c.kind.ensures) ∙ sym c.is_plain_kind.ensures ∙ c.if-not-is_plain_kind.false)

pub loop-index-preserved : goal.loop-index-preserved
loop-index-preserved t c =
    let ps = parts_of (node_tree c.args.node) in
    elim c.match-part.branch [
      | in-Some+else-not-is_plain w ↦ plain-turn ps c.loop-index.index _ c.loop-index.invariant (node_tree w.in-Some.part) w.in-Some.ensures (sym w.is_plain.ensures ∙ w.if-not-is_plain.false)
      | in_default w ↦ plain-gap ps c.loop-index.index _ c.loop-index.invariant w.in_default.ensures (subst (λ n. c.loop-index.index < n) c.part_count-index-end.ensures c.loop-index-test.true)
    ]

pub returns : goal.returns
returns t c =
    plain-end (parts_of (node_tree c.args.node)) c.loop-index.index _ c.loop-index.invariant (subst (λ n. n ≤ c.loop-index.index) c.part_count-index-end.ensures c.loop-index-test.false)
    ∙ by-parts (node_tree c.args.node) (sym (ap is_plain_kind c.kind.ensures) ∙ sym c.is_plain_kind.ensures ∙ c.if-not-is_plain_kind.false)
