use Rattle.location_laws.proofs.OrderLemmas.{among_ordered}
use Rattle.location_laws.proofs.DerivedTreeOrder.{AtName, derived_ordered}
use Rattle.location_laws.proofs.laws.identifiers_are_at_their_names.Goals as goal

pub returns : goal.returns
returns c = λ language text n P u d m a k. among_ordered (AtName text) n (derived_ordered language text n P u d) a k
