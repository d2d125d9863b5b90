use Rattle.std.proofs.Common.{ap, ◌∙◌, arith, option_map}
use Rattle.std.proofs.lemmas.Bool.{eqb-true}
use Rattle.tree.specs.Node.{node_tree, list_parts}
use Rattle.tree.specs.Tree.{parts_drop, parts_total}
use Rattle.mending.proofs.MendSteps.{optional_at, optional_smaller, part_smaller, drop_smaller, mends_labelled, left_gone, left_part, left_none}
use Rattle.mending.proofs.RebuiltSteps.{dot_mends, operator_mends}
use Rattle.mending.proofs.mends.+mends.Goals as goal

pub mends_node-mends_both-requires : goal.mends_node-mends_both-requires
mends_node-mends_both-requires t c = (omega (arith, optional_smaller (node_tree c.args.node) 0 (option_map node_tree c.part.result) c.part.ensures), tt)

pub mends_node-returns-then-has_dot : goal.mends_node-returns-then-has_dot
mends_node-returns-then-has_dot t c = λ same.
    dot_mends c.args.changes.now (node_tree c.args.node) (node_tree c.in-Some-dotted_key.key) (node_tree c.args.after) (option_map node_tree c.part.result) (option_map node_tree c.part-then-has_dot.result)
    c.in-Some-dotted_key.ensures (c.has_dot.ensures c.if-has_dot.true) c.part.ensures c.part-then-has_dot.ensures (c.mends_both.ensures same)

pub mends_node-mends_parts-requires : goal.mends_node-mends_parts-requires
mends_node-mends_parts-requires t c =
    let first = c.label_of-label.result.first in
    (omega (arith, drop_smaller (node_tree c.args.node) first, ap parts_total (c.skip.ensures ∙ ap (parts_drop first) c.parts-parts.ensures)), tt)

pub mends_node-returns : goal.mends_node-returns
mends_node-returns t c = λ same.
    mends_labelled c.args.changes.now (node_tree c.args.node) (node_tree c.args.after) c.label_of-label.result c.kind-kind.result (list_parts c.skip.result) (list_parts c.parts.result) c.kind-kind.ensures
    (c.skip.ensures ∙ ap (parts_drop c.label_of-label.result.first) c.parts-parts.ensures) c.parts.ensures c.label_of-label.ensures (c.has_label.ensures c.if-not-has_label.false) (c.mends_parts.ensures same)

pub mends_parts-loop-index-preserved-then-goes_part : goal.mends_parts-loop-index-preserved-then-goes_part
mends_parts-loop-index-preserved-then-goes_part t c =
    left_gone c.args.changes.now c.args.kind (list_parts c.args.parts) (list_parts c.args.others) c.loop-index.index c.loop-index.next (option_map node_tree c.get-part.result) c.get-part.ensures
    (c.goes_part.ensures c.if-goes_part.true) c.loop-index.invariant

pub mends_parts-mends_part-requires : goal.mends_parts-mends_part-requires
mends_parts-mends_part-requires t c = (omega (arith, optional_at (list_parts c.args.parts) c.loop-index.index (option_map node_tree c.get-part.result) c.get-part.ensures), tt)

pub mends_parts-loop-index-preserved : goal.mends_parts-loop-index-preserved
mends_parts-loop-index-preserved t c =
    left_part c.args.changes.now c.args.kind (list_parts c.args.parts) (list_parts c.args.others) c.loop-index.index c.loop-index.next (option_map node_tree c.get-part.result) (option_map node_tree c.get.result)
    c.get-part.ensures c.get.ensures (omega arith) (omega arith) (c.standing_for-other.ensures (c.mends_part.ensures c.if-not-mends_part.false)) c.loop-index.invariant

pub mends_parts-returns : goal.mends_parts-returns
mends_parts-returns t c = λ same.
    let end = eqb-true c.loop-index.next c.len-2.result same in
    left_none c.args.changes.now c.args.kind (list_parts c.args.parts) (list_parts c.args.others) c.loop-index.index c.loop-index.next (omega arith) (omega arith) c.loop-index.invariant

pub mends_node-mends_both-requires-else-not-has_operator : goal.mends_node-mends_both-requires-else-not-has_operator
mends_node-mends_both-requires-else-not-has_operator t c = (omega (arith, optional_smaller (node_tree c.args.node) 0 (option_map node_tree c.part-else-not-has_operator.result) c.part-else-not-has_operator.ensures), tt)

pub mends_node-mends_both-requires-in-Some-long_operation : goal.mends_node-mends_both-requires-in-Some-long_operation
mends_node-mends_both-requires-in-Some-long_operation t c =
    let operation = node_tree c.in-Some-long_operation.operation in
    (omega (arith, optional_smaller operation 1 (option_map node_tree c.part-in-Some-long_operation.result) c.part-in-Some-long_operation.ensures, part_smaller (node_tree c.args.node) operation 1 c.in-Some-long_operation.ensures.at), tt)

pub mends_node-returns-in-Some-long_operation : goal.mends_node-returns-in-Some-long_operation
mends_node-returns-in-Some-long_operation t c = λ same.
    operator_mends c.args.changes.now (node_tree c.args.node) (node_tree c.in-Some-long_operation.operation) (node_tree c.args.after) (option_map node_tree c.part-else-not-has_operator.result)
    (option_map node_tree c.part-else-not-has_operator-2.result) (option_map node_tree c.part-in-Some-long_operation.result) (option_map node_tree c.part-in-Some-long_operation-2.result) c.in-Some-long_operation.ensures.leads
    (c.has_operator.ensures c.if-not-has_operator.false) c.part-else-not-has_operator.ensures c.part-else-not-has_operator-2.ensures (c.mends_both-else-not-has_operator.ensures c.if-not-mends_both.false)
    c.part-in-Some-long_operation.ensures c.part-in-Some-long_operation-2.ensures (c.mends_both-in-Some-long_operation.ensures same)
