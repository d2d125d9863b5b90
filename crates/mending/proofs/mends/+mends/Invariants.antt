use Rattle.std.proofs.Common.{◌+◌, ◌*◌, option_map}
use Rattle.tree.specs.Node.{node_tree, list_parts}
use Rattle.tree.specs.Tree.{node_total, parts_total}
use Rattle.mending.specs.Making.{AreLeft}
use Rattle.mending.proofs.MendSteps.{optional_total}
use Rattle.mending.proofs.mends.+mends.Given as goal

abbrev pub invariant-mends_parts-loop-index : goal.invariant-mends_parts-loop-index
invariant-mends_parts-loop-index l = AreLeft l.changes l.kind (list_parts l.parts) (list_parts l.others) l.index l.next

abbrev pub decreases-mends_node : goal.decreases-mends_node
decreases-mends_node l = 3 * node_total (node_tree l.node)

abbrev pub decreases-mends_parts : goal.decreases-mends_parts
decreases-mends_parts l = 3 * parts_total (list_parts l.parts) + 2

abbrev pub decreases-mends_part : goal.decreases-mends_part
decreases-mends_part l = 3 * optional_total (option_map node_tree l.part) + 1

abbrev pub decreases-mends_both : goal.decreases-mends_both
decreases-mends_both l = 3 * optional_total (option_map node_tree l.part) + 1
