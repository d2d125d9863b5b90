use Rattle.location_laws.proofs.DerivedTreeOrder.{AtName, name_wide, derived_ordered}
use Rattle.location_laws.proofs.Bound.{binding_name}
use Rattle.location_laws.proofs.laws.bindings_are_at_their_names.Goals as goal

pub returns : goal.returns
returns c = λ language text n P u d s b a e. (binding_name (AtName text) (name_wide text) n (derived_ordered language text n P u d) a e).1
