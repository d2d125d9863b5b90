use Rattle.language.proofs.lower_bound.LeastPairs.{derived_at_least}
use Rattle.language.proofs.laws.no_fewer_pairs.Goals as goal

pub returns : goal.returns
returns c = λ n m text P h d. derived_at_least n m text P h d
