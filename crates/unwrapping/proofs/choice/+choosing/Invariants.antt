use Rattle.std.proofs.Common.{◌+◌, ◌*◌}
use Rattle.tree.specs.Tree.{node_total}
use Rattle.tree.specs.Node.{node_tree}
use Rattle.unwrapping.proofs.choice.+choosing.Given as goal

abbrev pub decreases-choose_node : goal.decreases-choose_node
decreases-choose_node l = 2 * node_total (node_tree l.node) + 1

abbrev pub decreases-choose_parts : goal.decreases-choose_parts
decreases-choose_parts l = 2 * node_total (node_tree l.node)
