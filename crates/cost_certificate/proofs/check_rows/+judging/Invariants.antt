use Rattle.std.proofs.Common.{◌≡◌, ◌+◌, ◌*◌, ◌≤◌, suc, Some}
use Rattle.tree.specs.Tree.{node_total, parts_of}
use Rattle.tree.specs.Node.{node_tree, list_parts}
use Rattle.tree.proofs.PartWalk.{parts_drop}
use Rattle.language.specs.RowPositions.{parts_rows}
use Rattle.spelling_table.specs.Outlines.{role_of}
use Rattle.spellings.specs.Remaining.{left}
use Rattle.spellings.specs.Cursors.{left_by}
use Rattle.spellings.specs.Spelled.{settled_roles}
use Rattle.spellings.specs.Wherever.{spelled_by}
use Rattle.cost_table.specs.Costs.{sums, same_everywhere}
use Rattle.cost_table.specs.Tables.{table_of}
use Rattle.cost_certificate.specs.Walked.{bounds_over, parts_wide_nodes}
use Rattle.cost_certificate.proofs.CheckedRows.{Before}
use Rattle.cost_certificate.proofs.check_rows.+judging.Given as goal

abbrev pub decreases-check_node : goal.decreases-check_node
decreases-check_node l = 3 * node_total (node_tree l.node) + 2

abbrev pub decreases-check_inside : goal.decreases-check_inside
decreases-check_inside l = 3 * node_total (node_tree l.node) + 1

abbrev pub decreases-check_parts : goal.decreases-check_parts
decreases-check_parts l = 3 * node_total (node_tree l.node)

abbrev pub invariant-check_parts-loop-place : goal.invariant-check_parts-loop-place
invariant-check_parts-loop-place l = record {
  added : sums l.sums (bounds_over (table_of l.table.rows.items l.table.total) (parts_drop l.place (parts_of (node_tree l.node))) (role_of l.own) (left_by l.slots (list_parts l.parts)) (suc l.passed.next)) ≡
      bounds_over (table_of l.table.rows.items l.table.total) (parts_of (node_tree l.node)) (role_of l.own) (left (spelled_by l.node l.own l.fn.production).slots) (suc l.index);
  whole : sums l.sums (same_everywhere (Some 0)) ≡ l.sums;
  few : l.passed.next + parts_rows (parts_drop l.place (parts_of (node_tree l.node))) (settled_roles (role_of l.own) (left_by l.slots (list_parts l.parts))) ≤ 16777216;
  passed : Before (table_of l.table.rows.items l.table.total) l.index l.passed (parts_wide_nodes (parts_drop l.place (parts_of (node_tree l.node))) (settled_roles (role_of l.own) (left_by l.slots (list_parts l.parts)))) (parts_wide_nodes (parts_of (node_tree l.node)) (settled_roles (role_of l.own) (left (spelled_by l.node l.own l.fn.production).slots)));
}
