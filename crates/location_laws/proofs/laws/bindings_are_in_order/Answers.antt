use Rattle.location_laws.proofs.DerivedTreeOrder.{AtName, name_wide, derived_ordered}
use Rattle.location_laws.proofs.Bound.{scope_names_apart}
use Rattle.location_laws.proofs.laws.bindings_are_in_order.Goals as goal

pub returns : goal.returns
returns c = λ language text n P u d s a. scope_names_apart (AtName text) (name_wide text) n (derived_ordered language text n P u d) a
