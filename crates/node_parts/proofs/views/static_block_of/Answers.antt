use Rattle.std.proofs.Common.{◌<◌}
use Rattle.tree.specs.Node.{node_tree}
use Rattle.tree.specs.Tree.{node_total}
use Rattle.typed_nodes.specs.ClassElements.{static_block_seen}
use Rattle.node_parts.proofs.SmallerPieces.{static_block_smaller, static_block_total}
use Rattle.node_parts.proofs.SmallerViews.{if_seen}
use Rattle.node_parts.proofs.views.static_block_of.Goals as goal

pub returns : goal.returns
returns c = let t = node_tree c.args.node in if_seen static_block_seen (λ v. static_block_total v < node_total t) c.of.result _ c.of.ensures (static_block_smaller t)
