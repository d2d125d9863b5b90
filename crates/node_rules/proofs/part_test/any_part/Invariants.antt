use Rattle.std.proofs.Common.{◌≡◌}
use Rattle.tree.specs.Node.{node_tree}
use Rattle.tree.specs.Tree.{parts_of, parts_drop}
use Rattle.node_rules.specs.PartTests.{any_part, passes}
use Rattle.node_rules.proofs.part_test.any_part.Given as goal

abbrev pub invariant-loop-index : goal.invariant-loop-index
invariant-loop-index l = any_part (passes l.test) (parts_drop l.index (parts_of (node_tree l.node))) ≡ any_part (passes l.test) (parts_of (node_tree l.node))
