pub mod Chains
pub mod Infix
pub mod Operations
pub mod OperatorRows
pub mod Ranks
