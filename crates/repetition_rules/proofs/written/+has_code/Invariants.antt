use Rattle.std.proofs.Common.{◌≡◌}
use Rattle.tree.specs.Node.{node_tree}
use Rattle.tree.specs.Tree.{node_total, parts_of}
use Rattle.tree.proofs.PartWalk.{parts_drop}
use Rattle.repetition_rules.specs.Written.{has_code, have_code}
use Rattle.repetition_rules.proofs.written.+has_code.Given as goal

abbrev pub decreases-has_code : goal.decreases-has_code
decreases-has_code l = node_total (node_tree l.node)

abbrev pub invariant-loop-index : goal.invariant-loop-index
invariant-loop-index l = have_code (parts_drop l.index (parts_of (node_tree l.node))) ≡ has_code (node_tree l.node)
