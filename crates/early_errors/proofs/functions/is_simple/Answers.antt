use Rattle.std.proofs.Common.{◌<◌, ◌≤◌, ◌-◌, true, false, subst, sym, ◌∙◌, arith}
use Rattle.tree.specs.Node.{node_tree}
use Rattle.tree.specs.Tree.{parts_of, part_count}
use Rattle.early_errors.proofs.FunctionLists.{simple-step, simple-past}
use Rattle.early_errors.proofs.functions.is_simple.Goals as goal

pub returns-then-count-eq0 : goal.returns-then-count-eq0
returns-then-count-eq0 c =
    let ps = parts_of (node_tree c.args.node) in
    let l : part_count ps - 1 ≤ c.args.from = omega (arith, c.part_count-count.ensures, c.if-count-eq0.true) in
    simple-past ps c.args.from l

pub returns-then-not-is_simple_parameter : goal.returns-then-not-is_simple_parameter
returns-then-not-is_simple_parameter c =
    sym (simple-step (parts_of (node_tree c.args.node)) c.loop-index.index _ c.is_simple_parameter.result false (subst (λ n. c.loop-index.index < n - 1) c.part_count-count.ensures c.loop-index-test.true) c.part.ensures c.is_simple_parameter.ensures
    c.if-not-is_simple_parameter.true) ∙ c.loop-index.invariant

pub loop-index-preserved : goal.loop-index-preserved
loop-index-preserved c =
    sym (simple-step (parts_of (node_tree c.args.node)) c.loop-index.index _ c.is_simple_parameter.result true (subst (λ n. c.loop-index.index < n - 1) c.part_count-count.ensures c.loop-index-test.true) c.part.ensures c.is_simple_parameter.ensures
    c.if-not-is_simple_parameter.false) ∙ c.loop-index.invariant

pub returns : goal.returns
returns c =
    simple-past (parts_of (node_tree c.args.node)) c.loop-index.index (subst (λ n. n - 1 ≤ c.loop-index.index) c.part_count-count.ensures c.loop-index-test.false) ∙ c.loop-index.invariant
