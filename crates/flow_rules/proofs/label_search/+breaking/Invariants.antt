use Rattle.std.proofs.Common.{◌≡◌, ◌+◌, ◌*◌}
use Rattle.tree.specs.Node.{node_tree}
use Rattle.tree.specs.Tree.{node_total, parts_of}
use Rattle.tree.proofs.PartWalk.{parts_drop}
use Rattle.flow_rules.specs.Completion.{BreakOf, some}
use Rattle.flow_rules.proofs.label_search.+breaking.Given as goal

abbrev pub decreases-breaks : goal.decreases-breaks
decreases-breaks l = 2 * node_total (node_tree l.node) + 1

abbrev pub decreases-parts_break : goal.decreases-parts_break
decreases-parts_break l = 2 * node_total (node_tree l.node)

abbrev pub invariant-parts_break-loop-index : goal.invariant-parts_break-loop-index
invariant-parts_break-loop-index l = some (BreakOf l.label) (parts_drop l.index (parts_of (node_tree l.node))) ≡ some (BreakOf l.label) (parts_of (node_tree l.node))
