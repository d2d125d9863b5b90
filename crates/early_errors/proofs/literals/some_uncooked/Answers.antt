use Rattle.std.proofs.Common.{◌<◌, ◌≤◌, true, false, subst, sym, ◌∙◌}
use Rattle.tree.specs.Node.{node_tree}
use Rattle.tree.specs.Tree.{parts_of}
use Rattle.early_errors.proofs.Literally.{uncooked-step, uncooked-past}
use Rattle.early_errors.proofs.literals.some_uncooked.Goals as goal

pub returns-then-branch : goal.returns-then-branch
returns-then-branch c =
    sym (uncooked-step (parts_of (node_tree c.args.node)) c.loop-index.index _ c.in_ok-is_uncooked.field-0 true (subst (λ n. c.loop-index.index < n) c.part_count-index-end.ensures c.loop-index-test.true) c.part.ensures
    c.in_ok-is_uncooked.ensures c.if-branch.true) ∙ c.loop-index.invariant

pub loop-index-preserved : goal.loop-index-preserved
loop-index-preserved c =
    sym (uncooked-step (parts_of (node_tree c.args.node)) c.loop-index.index _ c.in_ok-is_uncooked.field-0 false (subst (λ n. c.loop-index.index < n) c.part_count-index-end.ensures c.loop-index-test.true) c.part.ensures
    c.in_ok-is_uncooked.ensures c.if-branch.false) ∙ c.loop-index.invariant

pub returns : goal.returns
returns c =
    uncooked-past (parts_of (node_tree c.args.node)) c.loop-index.index (subst (λ n. n ≤ c.loop-index.index) c.part_count-index-end.ensures c.loop-index-test.false) ∙ c.loop-index.invariant
