use Rattle.std.proofs.Common.{◌∙◌}
use Rattle.std.specs.Prelude.{◌&&◌}
use Rattle.tree.specs.Node.{node_tree}
use Rattle.early_errors.proofs.Founds.{key_is}
use Rattle.early_errors.proofs.objects.is_proto.Goals as goal

pub returns : goal.returns
returns c =
    c.both.ensures ∙ (λ i. key_is c.flags-is_computed.result (node_tree c.args.property) _ "__proto__" c.says.result c.part.ensures c.flags-is_computed.ensures c.says.ensures i && c.has_value.ensures i)
