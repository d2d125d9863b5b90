use Rattle.std.proofs.Common.{◌≡◌}
use Rattle.tree.specs.Node.{node_tree}
use Rattle.tree.specs.Tree.{parts_of, parts_drop}
use Rattle.node_rules.specs.ClassTests.{each_is_handed_on}
use Rattle.node_rules.proofs.class_tests.each_is_handed_on.Given as goal

abbrev pub invariant-loop-index : goal.invariant-loop-index
invariant-loop-index l =
    each_is_handed_on (parts_drop l.index (parts_of (node_tree l.function))) (parts_drop l.index (parts_of (node_tree l.call)))
    ≡ each_is_handed_on (parts_of (node_tree l.function)) (parts_of (node_tree l.call))
