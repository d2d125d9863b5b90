use Rattle.reading_laws.proofs.derived_texts_have_one_tree_reading.Goals as goal
use Rattle.reading_laws.proofs.TreeGoals.{one_tree_reading_of_derived}

pub returns : goal.returns
returns c = one_tree_reading_of_derived
