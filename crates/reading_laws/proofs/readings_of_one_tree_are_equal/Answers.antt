use Rattle.reading_laws.proofs.readings_of_one_tree_are_equal.Goals as goal
use Rattle.reading_laws.proofs.TreeGoals.{readings_of_one_tree}

pub returns : goal.returns
returns c = readings_of_one_tree
