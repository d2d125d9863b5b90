mod BareNodes
mod Behind
mod CodeSearch
mod Digits
mod Passes
mod Chaining
mod Covering
mod Operands
pub mod Together
mod Writing
