use Rattle.std.proofs.Common.{◌∙◌, ap, option_map}
use Rattle.tree.specs.Tree.{kind_of}
use Rattle.tree.specs.Node.{node_tree}
use Rattle.typed_nodes.proofs.MissingParts.{headed_missing}
use Rattle.typed_nodes.specs.Statements.{statement_seen}
use Rattle.typed_nodes.proofs.statement.headed.Goals as goal

pub returns-in_err-first : goal.returns-in_err-first
returns-in_err-first c =
    ap (option_map statement_seen) c.from_residual.ensures
    ∙ headed_missing (kind_of (node_tree c.args.node)) (node_tree c.args.node) c.in_err-first.ensures
