use Rattle.std.proofs.Common.{sym, ap, ◌∙◌, ◌<◌, ◌≤◌, subst}
use Rattle.tree.specs.Node.{node_tree}
use Rattle.tree.specs.Tree.{parts_of}
use Rattle.repetition_rules.specs.Written.{holds_code}
use Rattle.repetition_rules.proofs.CodeSearch.{code-here, code-below, code-found, code-turn, code-gap, code-end}
use Rattle.repetition_rules.proofs.written.+has_code.Goals as goal
use Rattle.repetition_rules.proofs.written.+has_code.Goals.{in-Some+else-has_code, in_default}

pub returns-then-holds_code : goal.returns-then-holds_code
returns-then-holds_code t c = code-here (node_tree c.args.node) (sym (ap holds_code c.kind.ensures) ∙ sym c.holds_code.ensures ∙ c.if-holds_code.true)

pub loop-index-init : goal.loop-index-init
loop-index-init t c = code-below (node_tree c.args.node) (sym (ap holds_code c.kind.ensures) ∙ sym c.holds_code.ensures ∙ c.if-holds_code.false)

pub returns-then-has_code : goal.returns-then-has_code
returns-then-has_code t c = code-found (parts_of (node_tree c.args.node)) c.loop-index.index _ c.loop-index.invariant (node_tree c.in-Some.part) c.in-Some.ensures (sym c.has_code.ensures ∙ c.if-has_code.true)

pub loop-index-preserved : goal.loop-index-preserved
loop-index-preserved t c =
    let ps = parts_of (node_tree c.args.node) in
    elim c.match-part.branch [
      | in-Some+else-has_code w ↦ code-turn ps c.loop-index.index _ c.loop-index.invariant (node_tree w.in-Some.part) w.in-Some.ensures (sym w.has_code.ensures ∙ w.if-has_code.false)
      | in_default w ↦ code-gap ps c.loop-index.index _ c.loop-index.invariant w.in_default.ensures (subst (λ n. c.loop-index.index < n) c.part_count-index-end.ensures c.loop-index-test.true)
    ]

pub returns : goal.returns
returns t c = code-end (parts_of (node_tree c.args.node)) c.loop-index.index _ c.loop-index.invariant (subst (λ n. n ≤ c.loop-index.index) c.part_count-index-end.ensures c.loop-index-test.false)
