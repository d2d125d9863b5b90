use Rattle.language.proofs.lower_bound.LeastPairs.{derived_at_least_in}
use Rattle.language.proofs.laws.no_fewer_pairs_in.Goals as goal

pub returns : goal.returns
returns c = derived_at_least_in
