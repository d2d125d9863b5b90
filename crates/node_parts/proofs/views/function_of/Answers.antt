use Rattle.std.proofs.Common.{◌<◌}
use Rattle.tree.specs.Node.{node_tree}
use Rattle.tree.specs.Tree.{node_total}
use Rattle.typed_nodes.specs.Functions.{function_seen}
use Rattle.node_parts.specs.Sizes.{function_total}
use Rattle.node_parts.proofs.SmallerViews.{function_smaller, if_seen}
use Rattle.node_parts.proofs.views.function_of.Goals as goal

pub returns : goal.returns
returns c = let t = node_tree c.args.node in if_seen function_seen (λ v. function_total v < node_total t) c.of.result _ c.of.ensures (function_smaller t)
