use Rattle.tree.specs.Tree.{node_total}
use Rattle.tree.specs.Node.{node_tree}
use Rattle.cases.proofs.print.+show.Given as goal

abbrev pub invariant-loop-index : goal.invariant-loop-index
invariant-loop-index l = Unit {0}

abbrev pub decreases-show : goal.decreases-show
decreases-show l = node_total (node_tree l.node)
