use Rattle.language.proofs.lower_bound.LeastPairs.{ways-bare}
use Rattle.language.proofs.laws.places_change_no_way.Goals as goal

pub returns : goal.returns
returns c = λ a n. ways-bare a n
