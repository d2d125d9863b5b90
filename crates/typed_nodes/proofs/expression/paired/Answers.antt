use Rattle.std.proofs.Common.{◌∙◌, ap, option_map}
use Rattle.tree.specs.Tree.{kind_of}
use Rattle.tree.specs.Node.{node_tree}
use Rattle.typed_nodes.proofs.MissingParts.{paired_expression_missing}
use Rattle.typed_nodes.specs.Expressions.{expression_seen}
use Rattle.typed_nodes.proofs.expression.paired.Goals as goal

pub returns-in_err-second : goal.returns-in_err-second
returns-in_err-second c =
    ap (option_map expression_seen) c.from_residual.ensures
    ∙ paired_expression_missing (kind_of (node_tree c.args.node)) (node_tree c.args.node) c.in_err-second.ensures
