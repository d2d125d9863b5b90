use Rattle.tree.specs.Tree.{node_total}
use Rattle.tree.specs.Node.{node_tree}
use Rattle.early_errors.proofs.labels.+labels_loop.Given as goal

abbrev pub decreases-labels_loop : goal.decreases-labels_loop
decreases-labels_loop l = node_total (node_tree l.node)
