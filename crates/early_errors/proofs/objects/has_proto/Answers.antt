use Rattle.std.proofs.Common.{◌+◌, ◌++◌, ◌<◌, ◌≤◌, subst, ap, ◌∙◌}
use Rattle.tree.specs.Node.{node_tree}
use Rattle.tree.specs.Tree.{parts_of, parts_drop}
use Rattle.name_tables.specs.BoundNames.{each_part}
use Rattle.early_errors.specs.Objects.{proto_places}
use Rattle.name_tables.proofs.EachPart.{drop-step, drop-past}
use Rattle.early_errors.proofs.PartsByKind.{on_false}
use Rattle.early_errors.proofs.objects.has_proto.Goals as goal

pub loop-index-preserved : goal.loop-index-preserved
loop-index-preserved c =
    let ps = parts_of (node_tree c.args.object) in
    let i = c.loop-index.index in
    c.loop-index.invariant ∙ drop-step proto_places ps i _ (subst (λ n. i < n) c.part_count-index-end.ensures c.loop-index-test.true) c.part.ensures
    ∙ ap (λ l. l ++ each_part proto_places (parts_drop (i + 1) ps)) (on_false c.may_be_proto.result c.if-may_be_proto.false c.may_be_proto.ensures)

pub returns : goal.returns
returns c =
    let ps = parts_of (node_tree c.args.object) in
    c.loop-index.invariant ∙ drop-past proto_places ps c.loop-index.index (subst (λ n. n ≤ c.loop-index.index) c.part_count-index-end.ensures c.loop-index-test.false)
