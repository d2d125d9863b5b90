use Rattle.tree.specs.Tree.{node_total}
use Rattle.tree.specs.Node.{node_tree}
use Rattle.item_builder.proofs.chain_survey.has_complex_call.Given as goal

abbrev pub decreases-loop-at : goal.decreases-loop-at
decreases-loop-at l = node_total (node_tree l.at)
