use Rattle.location_laws.proofs.OrderLemmas.{tree_in_order}
use Rattle.location_laws.proofs.DerivedTreeOrder.{AtName, derived_ordered}
use Rattle.location_laws.proofs.laws.nodes_are_in_order.Goals as goal

pub returns : goal.returns
returns c = λ language text n P u d. tree_in_order (AtName text) n (derived_ordered language text n P u d)
