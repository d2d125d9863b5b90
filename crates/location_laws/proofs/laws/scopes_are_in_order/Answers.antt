use Rattle.std.proofs.Common.{sym}
use Rattle.scopes.specs.Found.{outside}
use Rattle.location_laws.proofs.DerivedTreeOrder.{AtName, derived_ordered}
use Rattle.location_laws.proofs.ScopeOrder.{places_stand, places_count}
use Rattle.location_laws.proofs.laws.scopes_are_in_order.Goals as goal

pub returns : goal.returns
returns c = λ language text n P u d. (sym (places_count n outside 0), (places_stand (AtName text) n (derived_ordered language text n P u d) outside.role).1)
