use Rattle.tree.specs.Node.{node_tree}
use Rattle.tree.specs.Tree.{node_total}
use Rattle.node_rules.proofs.paths.+is_same_path.Given as goal

abbrev pub decreases-is_same_path : goal.decreases-is_same_path
decreases-is_same_path l = node_total (node_tree l.one)
