use Rattle.std.proofs.Common.{◌∙◌}
use Rattle.tree.specs.Node.{node_tree}
use Rattle.early_errors.proofs.Jumps.{is_a_loop, is_neither, is_labelled}
use Rattle.early_errors.proofs.labels.+labels_loop.Goals as goal

pub returns-then-is_loop : goal.returns-then-is_loop
returns-then-is_loop t c = is_a_loop (node_tree c.args.node) c.kind.result c.is_loop.result c.kind.ensures c.is_loop.ensures c.if-is_loop.true

pub returns-then-not-is_label : goal.returns-then-not-is_label
returns-then-not-is_label t c =
    is_neither (node_tree c.args.node) c.kind.result c.kind-2.result c.is_loop.result c.is_label.result c.kind.ensures c.is_loop.ensures c.if-is_loop.false c.kind-2.ensures c.is_label.ensures c.if-not-is_label.true

pub returns-in-Some : goal.returns-in-Some
returns-in-Some t c =
    c.labels_loop.ensures
    ∙ is_labelled (node_tree c.args.node) c.kind.result c.kind-2.result c.is_loop.result c.is_label.result _ c.kind.ensures c.is_loop.ensures c.if-is_loop.false c.kind-2.ensures c.is_label.ensures c.if-not-is_label.false
    c.in-Some.ensures

pub returns-in-None : goal.returns-in-None
returns-in-None t c =
    is_labelled (node_tree c.args.node) c.kind.result c.kind-2.result c.is_loop.result c.is_label.result _ c.kind.ensures c.is_loop.ensures c.if-is_loop.false c.kind-2.ensures c.is_label.ensures c.if-not-is_label.false
    c.in-None.ensures
