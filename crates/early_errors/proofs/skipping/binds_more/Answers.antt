use Rattle.tree.specs.Node.{node_tree}
use Rattle.early_errors.proofs.DeclarationKinds.{binds_given}
use Rattle.early_errors.proofs.skipping.binds_more.Goals as goal

pub returns-in-Some-part : goal.returns-in-Some-part
returns-in-Some-part c =
    binds_given (node_tree c.args.declarator) (node_tree c.in-Some-part.target) (node_tree c.in-Some.field-0) c.is_restricted_or_pattern.result c.in-Some.ensures c.in-Some-part.ensures c.is_restricted_or_pattern.ensures
