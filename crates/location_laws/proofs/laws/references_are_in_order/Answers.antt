use Rattle.location_laws.proofs.DerivedTreeOrder.{AtName, name_wide, derived_ordered}
use Rattle.location_laws.proofs.References.{script_refs}
use Rattle.location_laws.proofs.laws.references_are_in_order.Goals as goal

pub returns : goal.returns
returns c = λ language text n P u d. script_refs (AtName text) (name_wide text) n (derived_ordered language text n P u d)
