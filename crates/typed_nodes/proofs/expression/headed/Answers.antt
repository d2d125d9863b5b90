use Rattle.std.proofs.Common.{◌∙◌, ap, option_map}
use Rattle.tree.specs.Tree.{kind_of}
use Rattle.tree.specs.Node.{node_tree}
use Rattle.typed_nodes.proofs.MissingParts.{member_missing}
use Rattle.typed_nodes.specs.Expressions.{expression_seen}
use Rattle.typed_nodes.proofs.expression.headed.Goals as goal

pub returns-in_err-first : goal.returns-in_err-first
returns-in_err-first c =
    ap (option_map expression_seen) c.from_residual.ensures
    ∙ member_missing (kind_of (node_tree c.args.node)) (node_tree c.args.node) c.in_err-first.ensures
