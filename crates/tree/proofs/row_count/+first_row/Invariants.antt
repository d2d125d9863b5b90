use Rattle.std.proofs.Common.{ℕ}
use Rattle.tree.specs.Tree.{node_total}
use Rattle.tree.specs.Places.{place_tree}
use Rattle.tree.specs.HeldRows.{PlaceHoldsRowsFrom}
use Rattle.tree.specs.declared.node_use.NodeUse.{NodeUse}
use Rattle.tree.proofs.FirstAndLast.{NoneBefore}
use Rattle.tree.proofs.row_count.+first_row.Given as goal

abbrev pub decreases-first_row : goal.decreases-first_row
decreases-first_row l = node_total (place_tree l.place)

abbrev pub invariant-loop-index : goal.invariant-loop-index
invariant-loop-index l = (a : NodeUse) (r : ℕ) → PlaceHoldsRowsFrom a r l.place → NoneBefore a (place_tree l.place) l.index
