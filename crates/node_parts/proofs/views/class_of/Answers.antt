use Rattle.std.proofs.Common.{◌<◌}
use Rattle.tree.specs.Node.{node_tree}
use Rattle.tree.specs.Tree.{node_total}
use Rattle.typed_nodes.specs.Functions.{class_seen}
use Rattle.node_parts.specs.Sizes.{class_total}
use Rattle.node_parts.proofs.SmallerViews.{class_smaller, if_seen}
use Rattle.node_parts.proofs.views.class_of.Goals as goal

pub returns : goal.returns
returns c = let t = node_tree c.args.node in if_seen class_seen (λ v. class_total v < node_total t) c.of.result _ c.of.ensures (class_smaller t)
