use Rattle.std.proofs.Common.{◌<◌}
use Rattle.tree.specs.Node.{node_tree}
use Rattle.tree.specs.Tree.{node_total}
use Rattle.typed_nodes.specs.ClassElements.{property_definition_seen}
use Rattle.node_parts.proofs.SmallerPieces.{property_definition_smaller, property_definition_total}
use Rattle.node_parts.proofs.SmallerViews.{if_seen}
use Rattle.node_parts.proofs.views.property_definition_of.Goals as goal

pub returns : goal.returns
returns c = let t = node_tree c.args.node in if_seen property_definition_seen (λ v. property_definition_total v < node_total t) c.of.result _ c.of.ensures (property_definition_smaller t)
