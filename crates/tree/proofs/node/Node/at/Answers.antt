use Rattle.tree.specs.HeldRows.{HoldsRows, HoldsRowsFrom}
use Rattle.tree.proofs.node.Node.at.Goals as goal

pub returns-clause-rows : goal.returns-clause-rows
unfolding HoldsRows
returns-clause-rows c = λ a h. h

pub returns-clause-numbered : goal.returns-clause-numbered
unfolding HoldsRowsFrom
returns-clause-numbered c = λ a r h. h
