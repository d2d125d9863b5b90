use Rattle.tree.specs.Node.{node_tree}
use Rattle.tree.specs.HeldRows.{HoldsRows}
use Rattle.tree.proofs.node.Node.row_count.Goals as goal

pub returns : goal.returns
unfolding HoldsRows node_tree
returns c = λ a h. c.row_count.ensures a h
