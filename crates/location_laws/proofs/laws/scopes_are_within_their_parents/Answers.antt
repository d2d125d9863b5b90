use Rattle.scopes.specs.Found.{found}
use Rattle.location_laws.specs.ScopeRanges.{scope_ranges}
use Rattle.location_laws.proofs.DerivedTreeOrder.{AtName, derived_ordered, derived_program}
use Rattle.location_laws.proofs.ReferencesInScopes.{script_located, scope_in_parent}
use Rattle.location_laws.proofs.laws.scopes_are_within_their_parents.Goals as goal

pub returns : goal.returns
returns c = λ language text n P u d i q s x a b p. scope_in_parent (scope_ranges n) (found n).scopes (scope_ranges n) i q (script_located (AtName text) n (derived_program language text n P d) (derived_ordered language text n P u d)).1 a b p
