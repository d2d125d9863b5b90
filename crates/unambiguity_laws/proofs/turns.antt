-- Each turn of the loop over operators reads the only thing there.
pub mod BesidePatterns
pub mod ChainElements
pub mod ChainTurns
pub mod OperatorLoop
pub mod SubscriptParts
pub mod TurnViews
pub mod Turns
pub mod TurnsAfterNew
