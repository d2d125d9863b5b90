use Rattle.std.proofs.Common.{sym, ap, ◌∙◌, ◌<◌, ◌≤◌, subst}
use Rattle.tree.specs.Kinds.{is_function}
use Rattle.tree.specs.Node.{node_tree}
use Rattle.tree.specs.Tree.{parts_of}
use Rattle.node_rules.specs.Searches.{is_sought}
use Rattle.node_rules.proofs.SearchLemmas.{sought-here, sought-shut, sought-below, sought-found, sought-turn, sought-gap, sought-end}
use Rattle.node_rules.proofs.search.+some_in.Goals as goal
use Rattle.node_rules.proofs.search.+some_in.Goals.{in-Some+else-some_in, in_default}

pub returns-then-is_sought : goal.returns-then-is_sought
returns-then-is_sought t c = sought-here (is_sought c.args.search.sought c.args.search.label.now) (node_tree c.args.node) (sym c.is_sought.ensures ∙ c.if-is_sought.true)

pub returns-then-is_function : goal.returns-then-is_function
returns-then-is_function t c = sought-shut (is_sought c.args.search.sought c.args.search.label.now) (node_tree c.args.node) (sym c.is_sought.ensures ∙ c.if-is_sought.false) (sym (ap is_function c.kind.ensures) ∙ sym c.is_function.ensures ∙ c.if-is_function.true)

pub loop-index-init : goal.loop-index-init
loop-index-init t c = sought-below (is_sought c.args.search.sought c.args.search.label.now) (node_tree c.args.node) (sym c.is_sought.ensures ∙ c.if-is_sought.false) (sym (ap is_function c.kind.ensures) ∙ sym c.is_function.ensures ∙ c.if-is_function.false)

pub returns-then-some_in : goal.returns-then-some_in
returns-then-some_in t c = sought-found (is_sought c.args.search.sought c.args.search.label.now) (parts_of (node_tree c.args.node)) c.loop-index.index (node_tree c.in-Some.part) _ c.in-Some.ensures (sym c.some_in.ensures ∙ c.if-some_in.true) c.loop-index.invariant

pub loop-index-preserved : goal.loop-index-preserved
loop-index-preserved t c =
    let ps = parts_of (node_tree c.args.node) in
    elim c.match-part.branch [
      | in-Some+else-some_in w ↦ sought-turn (is_sought c.args.search.sought c.args.search.label.now) ps c.loop-index.index (node_tree w.in-Some.part) _ w.in-Some.ensures (sym w.some_in.ensures ∙ w.if-some_in.false) c.loop-index.invariant
      | in_default w ↦ sought-gap (is_sought c.args.search.sought c.args.search.label.now) ps c.loop-index.index _ w.in_default.ensures (subst (λ n. c.loop-index.index < n) c.part_count-index-end.ensures c.loop-index-test.true) c.loop-index.invariant
    ]

pub returns : goal.returns
returns t c = sought-end (is_sought c.args.search.sought c.args.search.label.now) (parts_of (node_tree c.args.node)) c.loop-index.index _ (subst (λ n. n ≤ c.loop-index.index) c.part_count-index-end.ensures c.loop-index-test.false) c.loop-index.invariant
