use Rattle.tree.specs.Node.{node_tree}
use Rattle.tree.specs.HeldRows.{HoldsRows, HoldsRowsFrom}
use Rattle.tree.proofs.node.Node.finished_part.Goals as goal

pub returns-clause-rows : goal.returns-clause-rows
unfolding HoldsRows node_tree
returns-clause-rows c = c.flat_part.ensures.rows

pub returns-clause-numbered : goal.returns-clause-numbered
unfolding HoldsRowsFrom node_tree
returns-clause-numbered c = c.flat_part.ensures.numbered
