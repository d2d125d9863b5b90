use Rattle.std.proofs.Common.{◌<◌}
use Rattle.tree.specs.Node.{node_tree}
use Rattle.tree.specs.Tree.{node_total}
use Rattle.tree.proofs.PartWalk.{part_smaller}
use Rattle.node_parts.proofs.SmallerViews.{if_seen}
use Rattle.node_parts.proofs.parts.part.Goals as goal

pub returns : goal.returns
returns c = let t = node_tree c.args.node in if_seen node_tree (λ u. node_total u < node_total t) c.part.result _ c.part.ensures (λ u h. part_smaller t u c.args.index h)
