use Rattle.std.proofs.Common.{◌<◌}
use Rattle.tree.specs.Node.{node_tree}
use Rattle.tree.specs.Tree.{node_total}
use Rattle.typed_nodes.specs.Statements.{statement_seen}
use Rattle.node_parts.specs.Sizes.{statement_total}
use Rattle.node_parts.proofs.SmallerViews.{statement_smaller, if_seen}
use Rattle.node_parts.proofs.views.statement_of.Goals as goal

pub returns : goal.returns
returns c = let t = node_tree c.args.node in if_seen statement_seen (λ v. statement_total v < node_total t) c.of.result _ c.of.ensures (statement_smaller t)
