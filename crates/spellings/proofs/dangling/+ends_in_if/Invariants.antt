use Rattle.tree.specs.Tree.{node_total}
use Rattle.tree.specs.Node.{node_tree}
use Rattle.spellings.proofs.dangling.+ends_in_if.Given as goal

abbrev pub decreases-ends_in_if : goal.decreases-ends_in_if
decreases-ends_in_if l = node_total (node_tree l.node)
