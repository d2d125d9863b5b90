use Rattle.std.proofs.Common.{◌∙◌, ap, option_map}
use Rattle.tree.specs.Tree.{kind_of}
use Rattle.tree.specs.Node.{node_tree}
use Rattle.typed_nodes.proofs.MissingParts.{paired_missing}
use Rattle.typed_nodes.specs.Statements.{statement_seen}
use Rattle.typed_nodes.proofs.statement.paired.Goals as goal

pub returns-in_err-second : goal.returns-in_err-second
returns-in_err-second c =
    ap (option_map statement_seen) c.from_residual.ensures
    ∙ paired_missing (kind_of (node_tree c.args.node)) (node_tree c.args.node) c.in_err-second.ensures
