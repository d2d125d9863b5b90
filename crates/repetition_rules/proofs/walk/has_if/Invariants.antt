use Rattle.std.proofs.Common.{◌≡◌}
use Rattle.tree.specs.Node.{node_tree}
use Rattle.tree.specs.Tree.{parts_of}
use Rattle.tree.proofs.PartWalk.{parts_drop}
use Rattle.repetition_rules.specs.Bare.{has_if}
use Rattle.repetition_rules.proofs.walk.has_if.Given as goal

abbrev pub invariant-loop-index : goal.invariant-loop-index
invariant-loop-index l = has_if (parts_drop l.index (parts_of (node_tree l.node))) ≡ has_if (parts_of (node_tree l.node))
