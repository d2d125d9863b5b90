pub mod Begun
pub mod GroupSizes
pub mod StartsByClass
pub mod InfixOperators
pub mod PrivateNames
pub mod Refusals
