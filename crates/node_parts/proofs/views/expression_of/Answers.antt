use Rattle.std.proofs.Common.{◌<◌}
use Rattle.tree.specs.Node.{node_tree}
use Rattle.tree.specs.Tree.{node_total}
use Rattle.typed_nodes.specs.Expressions.{expression_seen}
use Rattle.node_parts.specs.Sizes.{expression_total}
use Rattle.node_parts.proofs.SmallerViews.{expression_smaller, if_seen}
use Rattle.node_parts.proofs.views.expression_of.Goals as goal

pub returns : goal.returns
returns c = let t = node_tree c.args.node in if_seen expression_seen (λ v. expression_total v < node_total t) c.of.result _ c.of.ensures (expression_smaller t)
