use Rattle.std.proofs.Common.{◌<◌}
use Rattle.tree.specs.Node.{node_tree}
use Rattle.tree.specs.Tree.{node_total}
use Rattle.typed_nodes.specs.Pieces.{catch_clause_seen}
use Rattle.node_parts.proofs.SmallerPieces.{catch_clause_smaller, catch_clause_total}
use Rattle.node_parts.proofs.SmallerViews.{if_seen}
use Rattle.node_parts.proofs.views.catch_of.Goals as goal

pub returns : goal.returns
returns c = let t = node_tree c.args.node in if_seen catch_clause_seen (λ v. catch_clause_total v < node_total t) c.of.result _ c.of.ensures (catch_clause_smaller t)
