use Rattle.unambiguity_laws.proofs.pairs_in_order.Goals as goal
use Rattle.unambiguity_laws.proofs.OrderedPairs.{pairs_ordered}

pub returns : goal.returns
returns c = pairs_ordered
