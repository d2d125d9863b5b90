use Rattle.std.proofs.Common.{◌<◌}
use Rattle.tree.specs.Node.{node_tree}
use Rattle.tree.specs.Tree.{node_total}
use Rattle.typed_nodes.specs.Modules.{module_item_seen}
use Rattle.node_parts.specs.Sizes.{module_total}
use Rattle.node_parts.proofs.SmallerViews.{module_smaller, if_seen}
use Rattle.node_parts.proofs.views.module_item_of.Goals as goal

pub returns : goal.returns
returns c = let t = node_tree c.args.node in if_seen module_item_seen (λ v. module_total v < node_total t) c.of.result _ c.of.ensures (module_smaller t)
