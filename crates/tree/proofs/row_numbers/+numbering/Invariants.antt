use Rattle.std.proofs.Common.{◌+◌, ◌*◌, ◌<◌}
use Rattle.tree.specs.Numbering.{KeepsLabels}
use Rattle.tree.proofs.StandingNodes.{above}
use Rattle.tree.proofs.NumberedNodes.{NumberedSoFar}
use Rattle.tree.proofs.row_numbers.+numbering.Given as goal

abbrev pub decreases-number_node : goal.decreases-number_node
decreases-number_node l = 3 * l.number + 2

abbrev pub decreases-number_below : goal.decreases-number_below
decreases-number_below l = 3 * l.number + 1

abbrev pub decreases-number_parts : goal.decreases-number_parts
decreases-number_parts l = 3 * above l.run.now

-- the rows of the parts so far are numbered
abbrev pub invariant-number_parts-loop-index : goal.invariant-number_parts-loop-index
invariant-number_parts-loop-index l = record {
  shape : KeepsLabels l.fn.nodes.items l.nodes.items;
  numbered : NumberedSoFar l.pool l.fn.nodes.items l.nodes.items l.around l.run l.row l.index l.next;
  counted : 0 < l.next;
}
