use Rattle.tree.specs.Tree.{node_total}
use Rattle.tree.specs.Node.{node_tree}
use Rattle.item_builder.proofs.chain_survey.chain_base_of.Given as goal

abbrev pub decreases-loop-before : goal.decreases-loop-before
decreases-loop-before l = node_total (node_tree l.at)
