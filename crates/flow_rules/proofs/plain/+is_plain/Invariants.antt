use Rattle.std.proofs.Common.{◌≡◌}
use Rattle.tree.specs.Node.{node_tree}
use Rattle.tree.specs.Tree.{node_total, parts_of}
use Rattle.tree.proofs.PartWalk.{parts_drop}
use Rattle.flow_rules.specs.Plain.{are_plain}
use Rattle.flow_rules.proofs.plain.+is_plain.Given as goal

abbrev pub decreases-is_plain : goal.decreases-is_plain
decreases-is_plain l = node_total (node_tree l.node)

abbrev pub invariant-loop-index : goal.invariant-loop-index
invariant-loop-index l = are_plain (parts_drop l.index (parts_of (node_tree l.node))) ≡ are_plain (parts_of (node_tree l.node))
