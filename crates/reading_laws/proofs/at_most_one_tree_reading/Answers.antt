use Rattle.reading_laws.proofs.at_most_one_tree_reading.Goals as goal
use Rattle.reading_laws.proofs.TreeReadings.{one_tree_reading}

pub returns : goal.returns
returns c = one_tree_reading
