pub mod InOrder
pub mod ScopeRanges
pub mod Laws
