use Rattle.location_laws.proofs.DerivedTreeOrder.{AtName, name_wide, derived_ordered}
use Rattle.location_laws.proofs.References.{ref_name}
use Rattle.location_laws.proofs.laws.references_are_at_their_names.Goals as goal

pub returns : goal.returns
returns c = λ language text n P u d r a. (ref_name (AtName text) (name_wide text) n (derived_ordered language text n P u d) a).1
