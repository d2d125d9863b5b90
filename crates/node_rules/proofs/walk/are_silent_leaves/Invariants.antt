use Rattle.std.proofs.Common.{◌≡◌}
use Rattle.tree.specs.Node.{list_parts}
use Rattle.tree.proofs.PartWalk.{parts_drop}
use Rattle.node_rules.specs.Due.{are_silent}
use Rattle.node_rules.proofs.walk.are_silent_leaves.Given as goal

abbrev pub invariant-loop-index : goal.invariant-loop-index
invariant-loop-index l = are_silent l.due (parts_drop l.index (list_parts l.parts)) ≡ are_silent l.due (list_parts l.parts)
