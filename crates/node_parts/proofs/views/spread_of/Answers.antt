use Rattle.std.proofs.Common.{◌<◌}
use Rattle.tree.specs.Node.{node_tree}
use Rattle.tree.specs.Tree.{node_total}
use Rattle.typed_nodes.specs.Pieces.{spread_seen}
use Rattle.node_parts.proofs.SmallerPieces.{spread_smaller, spread_total}
use Rattle.node_parts.proofs.SmallerViews.{if_seen}
use Rattle.node_parts.proofs.views.spread_of.Goals as goal

pub returns : goal.returns
returns c = let t = node_tree c.args.node in if_seen spread_seen (λ v. spread_total v < node_total t) c.of.result _ c.of.ensures (spread_smaller t)
