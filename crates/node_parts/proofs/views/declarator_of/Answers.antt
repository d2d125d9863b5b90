use Rattle.std.proofs.Common.{◌<◌}
use Rattle.tree.specs.Node.{node_tree}
use Rattle.tree.specs.Tree.{node_total}
use Rattle.typed_nodes.specs.Pieces.{declarator_seen}
use Rattle.node_parts.proofs.SmallerPieces.{declarator_smaller, declarator_total}
use Rattle.node_parts.proofs.SmallerViews.{if_seen}
use Rattle.node_parts.proofs.views.declarator_of.Goals as goal

pub returns : goal.returns
returns c = let t = node_tree c.args.node in if_seen declarator_seen (λ v. declarator_total v < node_total t) c.of.result _ c.of.ensures (declarator_smaller t)
