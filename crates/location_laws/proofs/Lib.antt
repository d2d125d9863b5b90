pub mod Ways
pub mod OrderLemmas
pub mod Forward
pub mod DerivedTreeOrder
pub mod Apart
pub mod References
pub mod ScopeOrder
pub mod DeclaredNameOrder
pub mod Bound
pub mod ReferencesInScopes
mod PlaceExamples
