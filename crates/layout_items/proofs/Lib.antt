pub mod Appending
pub mod BackPass
pub mod FlatGroups
pub mod ForwardPass
pub mod OneLayout
mod Rows
pub mod GroupNeeds
pub mod GroupTails
pub mod PassedItems
pub mod OpenGroups
pub mod PassSteps
