use Rattle.pairless_laws.proofs.PairlessNodes.{derived_free_in}
use Rattle.pairless_laws.proofs.laws.pairless_cost_nothing_in.Goals as goal

pub returns : goal.returns
returns c = λ language text n P d. derived_free_in language text n P d
