use Rattle.tree.specs.Node.{node_tree}
use Rattle.tree.specs.Tree.{node_total}
use Rattle.repetition_rules.proofs.conditions.+push_choices.Given as goal

abbrev pub decreases-push_choices : goal.decreases-push_choices
decreases-push_choices l = node_total (node_tree l.node)
