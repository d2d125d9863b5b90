use Rattle.tree.specs.Node.{node_tree}
use Rattle.early_errors.proofs.Founds.{members}
use Rattle.early_errors.proofs.classes.member_errors.Goals as goal

pub returns : goal.returns
returns c = λ z.
    members z (node_tree c.args.member) c.flags-flags.result _ _ c.is_accessor.result c.has_form.result c.either-differs.result c.both-is_special.result c.says.result c.both-special.result c.says-2.result c.both-prototype.result
    c.args.found c.key_error-found.result c.key_error.result c.requires c.flags-flags.ensures c.part-key.ensures c.part.ensures c.is_accessor.ensures c.has_form.ensures c.either-differs.ensures c.both-is_special.ensures c.says.ensures
    c.both-special.ensures c.key_error-found.ensures c.says-2.ensures c.both-prototype.ensures c.key_error.ensures
