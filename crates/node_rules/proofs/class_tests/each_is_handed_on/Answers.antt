use Rattle.std.proofs.Common.{sym, ap, ◌∙◌, ◌<◌, ◌≤◌, subst}
use Rattle.tree.specs.Node.{node_tree}
use Rattle.tree.specs.Tree.{part_at, part_count, parts_of}
use Rattle.node_rules.proofs.HandedLemmas.{handed-not, handed-turn, handed-end}
use Rattle.node_rules.proofs.class_tests.each_is_handed_on.Goals as goal

pub returns-then-not-is_handed_on : goal.returns-then-not-is_handed_on
returns-then-not-is_handed_on c =
    handed-not (parts_of (node_tree c.args.function)) (parts_of (node_tree c.args.call)) c.loop-index.index c.loop-index.invariant _ _
    (subst (λ n. c.loop-index.index < n) (c.len-index-end.ensures ∙ ap part_count c.parts-arguments.ensures) c.loop-index-test.true) (c.get-parameter.ensures ∙ ap (λ q. part_at q c.loop-index.index) c.parts-parameters.ensures)
    (c.get-argument.ensures ∙ ap (λ q. part_at q c.loop-index.index) c.parts-arguments.ensures) (sym c.is_handed_on.ensures ∙ c.if-not-is_handed_on.true)

pub loop-index-preserved : goal.loop-index-preserved
loop-index-preserved c =
    handed-turn (parts_of (node_tree c.args.function)) (parts_of (node_tree c.args.call)) c.loop-index.index c.loop-index.invariant _ _
    (subst (λ n. c.loop-index.index < n) (c.len-index-end.ensures ∙ ap part_count c.parts-arguments.ensures) c.loop-index-test.true) (c.get-parameter.ensures ∙ ap (λ q. part_at q c.loop-index.index) c.parts-parameters.ensures)
    (c.get-argument.ensures ∙ ap (λ q. part_at q c.loop-index.index) c.parts-arguments.ensures) (sym c.is_handed_on.ensures ∙ c.if-not-is_handed_on.false)

pub returns : goal.returns
returns c = handed-end (parts_of (node_tree c.args.function)) (parts_of (node_tree c.args.call)) c.loop-index.index c.loop-index.invariant (subst (λ n. n ≤ c.loop-index.index) (c.len-index-end.ensures ∙ ap part_count c.parts-arguments.ensures) c.loop-index-test.false)
