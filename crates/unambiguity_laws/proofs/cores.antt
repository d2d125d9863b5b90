-- The leftmost part of an expression is the only one.
pub mod ArrowBodies
pub mod AsyncCalls
pub mod AsyncCores
pub mod BracketCores
pub mod BracketForms
pub mod CoreNodes
pub mod ImportCores
pub mod NameCores
pub mod NewCores
pub mod ParenthesisCores
pub mod PrefixCores
pub mod PrivateCores
pub mod SuperCores
pub mod WordCores
pub mod YieldCores
