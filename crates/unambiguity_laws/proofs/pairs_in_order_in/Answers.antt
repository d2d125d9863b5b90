use Rattle.unambiguity_laws.proofs.pairs_in_order_in.Goals as goal
use Rattle.unambiguity_laws.proofs.OrderedPairs.{pairs_ordered_in}

pub returns : goal.returns
returns c = pairs_ordered_in
