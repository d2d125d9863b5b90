use Rattle.tree.specs.Node.{node_tree}
use Rattle.tree.specs.Tree.{node_total}
use Rattle.repetition_rules.proofs.conditions.+push_conditions.Given as goal

abbrev pub decreases-push_conditions : goal.decreases-push_conditions
decreases-push_conditions l = node_total (node_tree l.node)
