-- Costs: no derivation has fewer pairs.
pub mod Domination
pub mod LeastPairs
pub mod LowerBound
pub mod TableJudgement
