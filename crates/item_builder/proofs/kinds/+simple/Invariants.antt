use Rattle.std.proofs.Common.{◌+◌, ◌*◌}
use Rattle.tree.specs.Tree.{node_total, parts_total}
use Rattle.tree.specs.Node.{node_tree, list_parts}
use Rattle.item_builder.proofs.kinds.+simple.Given as goal

abbrev pub decreases-is_simple : goal.decreases-is_simple
decreases-is_simple l = 4 * node_total (node_tree l.node) + 3

abbrev pub decreases-are_simple : goal.decreases-are_simple
decreases-are_simple l = 4 * parts_total (list_parts l.list) + 4

abbrev pub decreases-is_simple_template : goal.decreases-is_simple_template
decreases-is_simple_template l = 4 * node_total (node_tree l.node) + 2

abbrev pub decreases-are_simple_properties : goal.decreases-are_simple_properties
decreases-are_simple_properties l = 4 * parts_total (list_parts l.list) + 4

abbrev pub decreases-is_simple_property : goal.decreases-is_simple_property
decreases-is_simple_property l = 4 * node_total (node_tree l.node) + 2

abbrev pub decreases-is_simple_call : goal.decreases-is_simple_call
decreases-is_simple_call l = 4 * node_total (node_tree l.node) + 2

abbrev pub decreases-is_simple_member : goal.decreases-is_simple_member
decreases-is_simple_member l = 4 * node_total (node_tree l.node) + 2
