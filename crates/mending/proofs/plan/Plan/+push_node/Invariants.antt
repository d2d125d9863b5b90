use Rattle.tree.specs.Node.{node_tree}
use Rattle.tree.specs.Tree.{node_total}
use Rattle.mending.proofs.plan.Plan.+push_node.Given as goal

abbrev pub decreases-push_node : goal.decreases-push_node
decreases-push_node l = node_total (node_tree l.node)
