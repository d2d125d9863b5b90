use Rattle.scopes.specs.Found.{found}
use Rattle.location_laws.specs.ScopeRanges.{scope_ranges}
use Rattle.location_laws.proofs.DerivedTreeOrder.{AtName, derived_ordered, derived_program}
use Rattle.location_laws.proofs.ReferencesInScopes.{script_located, ref_in_scope}
use Rattle.location_laws.proofs.laws.references_are_in_their_scopes.Goals as goal

pub returns : goal.returns
returns c = λ language text n P u d r a. ref_in_scope (scope_ranges n) (found n).references (script_located (AtName text) n (derived_program language text n P d) (derived_ordered language text n P u d)).0 a
