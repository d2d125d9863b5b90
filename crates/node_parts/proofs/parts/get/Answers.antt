use Rattle.std.proofs.Common.{◌≤◌}
use Rattle.tree.specs.Node.{node_tree, list_parts}
use Rattle.tree.specs.Tree.{node_total, parts_total}
use Rattle.tree.proofs.PartWalk.{parts_total-at}
use Rattle.node_parts.proofs.SmallerViews.{if_seen}
use Rattle.node_parts.proofs.parts.get.Goals as goal

pub returns : goal.returns
returns c =
    let ps = list_parts c.args.list in
    if_seen node_tree (λ u. node_total u ≤ parts_total ps) c.get.result _ c.get.ensures (λ u h. parts_total-at ps c.args.index u h)
