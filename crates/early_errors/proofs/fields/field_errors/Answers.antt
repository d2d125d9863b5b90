use Rattle.tree.specs.Node.{node_tree}
use Rattle.early_errors.proofs.Founds.{fields}
use Rattle.early_errors.proofs.fields.field_errors.Goals as goal

pub returns : goal.returns
returns c = λ z.
    fields z (node_tree c.args.field) c.flags-flags.result _ c.says-named.result c.says.result c.both-prototype.result c.args.found c.key_error-found.result c.key_error.result
    c.requires c.flags-flags.ensures c.part-key.ensures c.says-named.ensures c.key_error-found.ensures c.says.ensures c.both-prototype.ensures c.key_error.ensures
