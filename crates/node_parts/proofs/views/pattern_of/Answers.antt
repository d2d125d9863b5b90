use Rattle.std.proofs.Common.{◌<◌}
use Rattle.tree.specs.Node.{node_tree}
use Rattle.tree.specs.Tree.{node_total}
use Rattle.typed_nodes.specs.Patterns.{pattern_seen}
use Rattle.node_parts.specs.Sizes.{pattern_total}
use Rattle.node_parts.proofs.SmallerViews.{pattern_smaller, if_seen}
use Rattle.node_parts.proofs.views.pattern_of.Goals as goal

pub returns : goal.returns
returns c = let t = node_tree c.args.node in if_seen pattern_seen (λ v. pattern_total v < node_total t) c.of.result _ c.of.ensures (pattern_smaller t)
