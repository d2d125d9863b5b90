use Rattle.std.proofs.Common.{◌≡◌}
use Rattle.tree.specs.Node.{node_tree}
use Rattle.tree.specs.Tree.{parts_of}
use Rattle.tree.proofs.PartWalk.{parts_drop}
use Rattle.literal_rules.specs.Bare.{has_template}
use Rattle.literal_rules.proofs.walk.has_template.Given as goal

abbrev pub invariant-loop-index : goal.invariant-loop-index
invariant-loop-index l = has_template (parts_drop l.index (parts_of (node_tree l.node))) ≡ has_template (parts_of (node_tree l.node))
