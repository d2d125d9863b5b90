use Rattle.tree.specs.Node.{node_tree}
use Rattle.tree.specs.Tree.{node_total}
use Rattle.repetition_rules.proofs.else_if.+push_tests.Given as goal

abbrev pub decreases-push_tests : goal.decreases-push_tests
decreases-push_tests l = node_total (node_tree l.node)
