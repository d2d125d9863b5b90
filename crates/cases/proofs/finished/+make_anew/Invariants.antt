use Rattle.tree.specs.Tree.{node_total}
use Rattle.tree.specs.Node.{node_tree}
use Rattle.cases.proofs.finished.+make_anew.Given as goal

abbrev pub invariant-loop-index : goal.invariant-loop-index
invariant-loop-index l = Unit {0}

abbrev pub decreases-make_anew : goal.decreases-make_anew
decreases-make_anew l = node_total (node_tree l.node)
