use Rattle.reading_laws.proofs.spelled_readings_are_tree_readings.Goals as goal
use Rattle.reading_laws.proofs.TreeGoals.{spelled_by_tree}

pub returns : goal.returns
returns c = spelled_by_tree
