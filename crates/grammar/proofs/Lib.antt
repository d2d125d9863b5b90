pub mod Bytewise
pub mod ChainParts
pub mod ExpressionRanks
pub mod Firsts
pub mod InfixRows
pub mod Lengths
pub mod Operations
