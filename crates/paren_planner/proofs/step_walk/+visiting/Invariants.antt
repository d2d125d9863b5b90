use Rattle.std.proofs.Common.{◌+◌, ◌*◌}
use Rattle.tree.specs.Tree.{node_total}
use Rattle.tree.specs.Node.{node_tree, list_parts}
use Rattle.spelling_table.specs.Outlines.{role_of}
use Rattle.spellings.specs.Remaining.{left}
use Rattle.spellings.specs.Wherever.{spelled_by}
use Rattle.spellings.specs.Cursors.{left_by}
use Rattle.paren_planner.specs.Passing.{may_pass, pairs_of}
use Rattle.paren_planner.proofs.PassedNodes.{Reached}
use Rattle.paren_planner.proofs.step_walk.+visiting.Given as goal

abbrev pub decreases-visit_node : goal.decreases-visit_node
decreases-visit_node l = 4 * node_total (node_tree l.node) + 3

abbrev pub decreases-visit_atom : goal.decreases-visit_atom
decreases-visit_atom l = 4 * node_total (node_tree l.node) + 2

abbrev pub decreases-visit_at : goal.decreases-visit_at
decreases-visit_at l = 4 * node_total (node_tree l.node) + 1

abbrev pub decreases-visit_parts : goal.decreases-visit_parts
decreases-visit_parts l = 4 * node_total (node_tree l.node)

abbrev pub invariant-visit_parts-loop-index : goal.invariant-visit_parts-loop-index
invariant-visit_parts-loop-index l =
    Reached (may_pass l.pairs) (pairs_of l.pairs) l.node (role_of l.own) (left (spelled_by l.node l.own l.production).slots) (left_by l.slots (list_parts l.parts)) (list_parts l.parts) l.index l.from l.are_free l.fn.steps l.steps
