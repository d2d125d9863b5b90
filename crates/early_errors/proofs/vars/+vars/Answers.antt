use Rattle.std.proofs.Common.{◌<◌, ◌≤◌, ◌∙◌, subst}
use Rattle.tree.specs.Node.{node_tree}
use Rattle.tree.specs.Tree.{parts_of, part_count}
use Rattle.early_errors.proofs.VarFree.{free_step, free_past, function_given, plain_given}
use Rattle.early_errors.proofs.vars.+vars.Goals as goal

pub parts_have_none-loop-index-preserved : goal.parts_have_none-loop-index-preserved
parts_have_none-loop-index-preserved t c =
    let ps = parts_of (node_tree c.args.node) in
    c.loop-index.invariant
    ∙ free_step ps c.loop-index.index (part_count ps) _ c.part_has_none.result (subst (λ n. c.loop-index.index < n) c.part_count-index-end.ensures c.loop-index-test.true) c.part.ensures c.if-not-part_has_none.false c.part_has_none.ensures

pub parts_have_none-returns : goal.parts_have_none-returns
parts_have_none-returns t c =
    let ps = parts_of (node_tree c.args.node) in
    c.loop-index.invariant ∙ free_past ps c.loop-index.index (part_count ps) (subst (λ n. n ≤ c.loop-index.index) c.part_count-index-end.ensures c.loop-index-test.false)

pub has_none-returns-then-has_own_vars : goal.has_none-returns-then-has_own_vars
has_none-returns-then-has_own_vars t c = function_given (node_tree c.args.node) c.kind.result c.has_own_vars.result c.kind.ensures c.has_own_vars.ensures c.if-has_own_vars.true

pub has_none-returns : goal.has_none-returns
has_none-returns t c = plain_given (node_tree c.args.node) c.is_var.result c.parts_have_none.result c.is_var.ensures c.if-is_var.false c.parts_have_none.ensures
