use Rattle.std.proofs.Common.{sym, ap, ◌∙◌, ◌<◌, ◌≤◌, subst}
use Rattle.tree.specs.Node.{node_tree}
use Rattle.tree.specs.Tree.{part_at, part_count, parts_of}
use Rattle.node_rules.specs.PartTests.{passes}
use Rattle.node_rules.proofs.PartTestLemmas.{any-found, any-turn, any-end}
use Rattle.node_rules.proofs.part_test.any_part.Goals as goal

pub returns-then-passes : goal.returns-then-passes
returns-then-passes c =
    any-found (passes c.args.test) (parts_of (node_tree c.args.node)) c.loop-index.index _ (subst (λ n. c.loop-index.index < n) (c.len-index-end.ensures ∙ ap part_count c.parts-parts.ensures) c.loop-index-test.true)
    (c.get.ensures ∙ ap (λ q. part_at q c.loop-index.index) c.parts-parts.ensures) (sym c.passes.ensures ∙ c.if-passes.true) c.loop-index.invariant

pub loop-index-preserved : goal.loop-index-preserved
loop-index-preserved c =
    any-turn (passes c.args.test) (parts_of (node_tree c.args.node)) c.loop-index.index _ (subst (λ n. c.loop-index.index < n) (c.len-index-end.ensures ∙ ap part_count c.parts-parts.ensures) c.loop-index-test.true)
    (c.get.ensures ∙ ap (λ q. part_at q c.loop-index.index) c.parts-parts.ensures) (sym c.passes.ensures ∙ c.if-passes.false) c.loop-index.invariant

pub returns : goal.returns
returns c = any-end (passes c.args.test) (parts_of (node_tree c.args.node)) c.loop-index.index (subst (λ n. n ≤ c.loop-index.index) (c.len-index-end.ensures ∙ ap part_count c.parts-parts.ensures) c.loop-index-test.false) c.loop-index.invariant
