use Rattle.std.proofs.Common.{◌<◌}
use Rattle.tree.specs.Node.{node_tree}
use Rattle.tree.specs.Tree.{node_total}
use Rattle.typed_nodes.specs.Pieces.{switch_case_seen}
use Rattle.node_parts.proofs.SmallerPieces.{switch_case_smaller, switch_case_total}
use Rattle.node_parts.proofs.SmallerViews.{if_seen}
use Rattle.node_parts.proofs.views.case_of.Goals as goal

pub returns : goal.returns
returns c = let t = node_tree c.args.node in if_seen switch_case_seen (λ v. switch_case_total v < node_total t) c.of.result _ c.of.ensures (switch_case_smaller t)
