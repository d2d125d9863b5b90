use Rattle.tree.specs.Node.{node_tree}
use Rattle.tree.specs.Tree.{node_total}
use Rattle.repetition_rules.proofs.conditions.+choice_behind.Given as goal

abbrev pub decreases-choice_behind : goal.decreases-choice_behind
decreases-choice_behind l = node_total (node_tree l.node)
