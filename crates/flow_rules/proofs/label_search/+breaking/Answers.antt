use Rattle.std.proofs.Common.{sym, ap, ◌∙◌, ◌<◌, ◌≤◌, subst}
use Rattle.tree.specs.Node.{node_tree}
use Rattle.tree.specs.Tree.{parts_of}
use Rattle.flow_rules.specs.Completion.{BreakOf}
use Rattle.flow_rules.specs.KindSets.{is_code}
use Rattle.flow_rules.proofs.LabelLemmas.{here, ended, below, some-found, some-turn, some-gap, some-end}
use Rattle.flow_rules.proofs.label_search.+breaking.Goals as goal
use Rattle.flow_rules.proofs.label_search.+breaking.Goals.{parts_break-in-Some+else-breaks, parts_break-in_default}

pub breaks-returns-then-is_break_of : goal.breaks-returns-then-is_break_of
breaks-returns-then-is_break_of t c = here (BreakOf c.args.label.now) (node_tree c.args.node) (sym c.is_break_of.ensures ∙ c.if-is_break_of.true)

pub breaks-returns-then-is_code : goal.breaks-returns-then-is_code
breaks-returns-then-is_code t c = ended (BreakOf c.args.label.now) (node_tree c.args.node) (sym c.is_break_of.ensures ∙ c.if-is_break_of.false) (sym (ap is_code c.kind.ensures) ∙ sym c.is_code.ensures ∙ c.if-is_code.true)

pub breaks-returns : goal.breaks-returns
breaks-returns t c = c.parts_break.ensures ∙ below (BreakOf c.args.label.now) (node_tree c.args.node) (sym c.is_break_of.ensures ∙ c.if-is_break_of.false) (sym (ap is_code c.kind.ensures) ∙ sym c.is_code.ensures ∙ c.if-is_code.false)

pub parts_break-returns-then-breaks : goal.parts_break-returns-then-breaks
parts_break-returns-then-breaks t c = some-found (BreakOf c.args.label.now) (parts_of (node_tree c.args.node)) c.loop-index.index _ c.loop-index.invariant (node_tree c.in-Some.part) c.in-Some.ensures (sym c.breaks.ensures ∙ c.if-breaks.true)

pub parts_break-loop-index-preserved : goal.parts_break-loop-index-preserved
parts_break-loop-index-preserved t c =
    let ps = parts_of (node_tree c.args.node) in
    elim c.match-part.branch [
      | parts_break-in-Some+else-breaks w ↦ some-turn (BreakOf c.args.label.now) ps c.loop-index.index _ c.loop-index.invariant (node_tree w.in-Some.part) w.in-Some.ensures (sym w.breaks.ensures ∙ w.if-breaks.false)
      | parts_break-in_default w ↦ some-gap (BreakOf c.args.label.now) ps c.loop-index.index _ c.loop-index.invariant w.in_default.ensures (subst (λ n. c.loop-index.index < n) c.part_count-index-end.ensures c.loop-index-test.true)
    ]

pub parts_break-returns : goal.parts_break-returns
parts_break-returns t c = some-end (BreakOf c.args.label.now) (parts_of (node_tree c.args.node)) c.loop-index.index _ c.loop-index.invariant (subst (λ n. n ≤ c.loop-index.index) c.part_count-index-end.ensures c.loop-index-test.false)
