use Rattle.std.proofs.Common.{arith, option_map, sym, ap, ◌∙◌, not}
use Rattle.tree.specs.Node.{node_tree}
use Rattle.early_errors.proofs.Exports.{own_few, own_given, own_kind}
use Rattle.early_errors.proofs.Privates.{mapped_some, none_is}
use Rattle.early_errors.proofs.modules.exports_own_names.Goals as goal

pub returns-then-not-is_named_export : goal.returns-then-not-is_named_export
returns-then-not-is_named_export c = own_kind (node_tree c.args.export) c.kind.result c.is_named_export.result c.kind.ensures c.is_named_export.ensures c.if-not-is_named_export.true

pub returns-then-count-lt2 : goal.returns-then-count-lt2
returns-then-count-lt2 c =
    own_few (node_tree c.args.export) c.kind.result c.is_named_export.result c.part_count-count.result c.kind.ensures c.is_named_export.ensures c.if-not-is_named_export.false c.part_count-count.ensures c.if-count-lt2.true

pub returns : goal.returns
returns c =
    own_given (node_tree c.args.export) c.kind.result c.is_named_export.result c.is_none.result c.is_none-2.result c.both.result c.part_count-count.result (option_map node_tree c.part.result) (option_map node_tree c.part-2.result)
    c.kind.ensures c.is_named_export.ensures c.if-not-is_named_export.false c.part_count-count.ensures (omega (arith, c.if-count-lt2.false)) c.part.ensures c.part-2.ensures
    (none_is c.part.result c.is_none.result c.is_none.ensures ∙ ap not (sym (mapped_some node_tree c.part.result))) (none_is c.part-2.result c.is_none-2.result c.is_none-2.ensures ∙ ap not (sym (mapped_some node_tree c.part-2.result)))
    c.both.ensures
