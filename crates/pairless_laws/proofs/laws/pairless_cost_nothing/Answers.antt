use Rattle.pairless_laws.proofs.PairlessNodes.{derived_free}
use Rattle.pairless_laws.proofs.laws.pairless_cost_nothing.Goals as goal

pub returns : goal.returns
returns c = λ text n P d. derived_free text n P d
