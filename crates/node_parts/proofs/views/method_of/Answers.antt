use Rattle.std.proofs.Common.{◌<◌}
use Rattle.tree.specs.Node.{node_tree}
use Rattle.tree.specs.Tree.{node_total}
use Rattle.typed_nodes.specs.Pieces.{method_seen}
use Rattle.node_parts.proofs.SmallerPieces.{method_smaller, method_total}
use Rattle.node_parts.proofs.SmallerViews.{if_seen}
use Rattle.node_parts.proofs.views.method_of.Goals as goal

pub returns : goal.returns
returns c = let t = node_tree c.args.node in if_seen method_seen (λ v. method_total v < node_total t) c.of.result _ c.of.ensures (method_smaller t)
