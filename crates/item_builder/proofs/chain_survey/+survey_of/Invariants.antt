use Rattle.tree.specs.Tree.{node_total}
use Rattle.tree.specs.Node.{node_tree}
use Rattle.item_builder.proofs.chain_survey.+survey_of.Given as goal

abbrev pub decreases-survey_of : goal.decreases-survey_of
decreases-survey_of l = node_total (node_tree l.node)
