use Rattle.std.proofs.Common.{◌<◌}
use Rattle.tree.specs.Node.{node_tree}
use Rattle.tree.specs.Tree.{node_total}
use Rattle.typed_nodes.specs.Pieces.{property_seen}
use Rattle.node_parts.proofs.SmallerPieces.{property_smaller, property_total}
use Rattle.node_parts.proofs.SmallerViews.{if_seen}
use Rattle.node_parts.proofs.views.property_of.Goals as goal

pub returns : goal.returns
returns c = let t = node_tree c.args.node in if_seen property_seen (λ v. property_total v < node_total t) c.of.result _ c.of.ensures (property_smaller t)
