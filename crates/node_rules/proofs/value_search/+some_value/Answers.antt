use Rattle.std.proofs.Common.{sym, ap, ◌∙◌, ◌<◌, ◌≤◌, subst}
use Rattle.tree.specs.Node.{node_tree}
use Rattle.node_rules.proofs.ValueSearchLemmas.{value-here, value-below, value-found, value-turn, value-gap, value-end}
use Rattle.node_rules.proofs.value_search.+some_value.Goals as goal
use Rattle.node_rules.proofs.value_search.+some_value.Goals.{in-Some+else-some_value, in_default}

pub returns-then-is_value : goal.returns-then-is_value
returns-then-is_value t c = value-here c.args.value (node_tree c.args.node) (sym c.is_value.ensures ∙ c.if-is_value.true)

pub loop-index-init : goal.loop-index-init
loop-index-init t c = value-below c.args.value (node_tree c.args.node) (sym c.is_value.ensures ∙ c.if-is_value.false)

pub returns-then-some_value : goal.returns-then-some_value
returns-then-some_value t c = value-found c.args.value (node_tree c.args.node) c.loop-index.index (node_tree c.in-Some.part) _ (subst (λ n. c.loop-index.index < n) c.part_count-index-end.ensures c.loop-index-test.true) c.in-Some.ensures.given (sym c.some_value.ensures ∙ c.if-some_value.true) c.loop-index.invariant

pub loop-index-preserved : goal.loop-index-preserved
loop-index-preserved t c =
    let l = subst (λ n. c.loop-index.index < n) c.part_count-index-end.ensures c.loop-index-test.true in
    elim c.match-given_part.branch [
      | in-Some+else-some_value w ↦ value-turn c.args.value (node_tree c.args.node) c.loop-index.index (node_tree w.in-Some.part) _ l w.in-Some.ensures.given (sym w.some_value.ensures ∙ w.if-some_value.false) c.loop-index.invariant
      | in_default w ↦ value-gap c.args.value (node_tree c.args.node) c.loop-index.index _ l w.in_default.ensures.given c.loop-index.invariant
    ]

pub returns : goal.returns
returns t c = value-end c.args.value (node_tree c.args.node) c.loop-index.index _ (subst (λ n. n ≤ c.loop-index.index) c.part_count-index-end.ensures c.loop-index-test.false) c.loop-index.invariant
