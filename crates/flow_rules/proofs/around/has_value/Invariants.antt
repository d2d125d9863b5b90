use Rattle.std.proofs.Common.{◌≡◌}
use Rattle.tree.specs.Node.{node_tree}
use Rattle.tree.specs.Tree.{parts_of}
use Rattle.tree.proofs.PartWalk.{parts_drop}
use Rattle.flow_rules.specs.Arounds.{has_value}
use Rattle.flow_rules.proofs.around.has_value.Given as goal

abbrev pub invariant-loop-index : goal.invariant-loop-index
invariant-loop-index l = has_value (parts_drop l.index (parts_of (node_tree l.node))) ≡ has_value (parts_of (node_tree l.node))
