use Rattle.language.proofs.lower_bound.LeastPairs.{spelled_at_least}
use Rattle.language.proofs.laws.no_fewer_pairs_of_tokens.Goals as goal

pub returns : goal.returns
returns c = λ n m a o ts us P h d. spelled_at_least n m a P h d
