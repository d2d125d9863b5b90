pub mod HashbangLines
pub mod SeenClasses
pub mod TailTable
pub mod Peeks
pub mod Walk
pub mod ReadingDerivations
pub mod TreeReadings
pub mod DivTable
pub mod OneTokenWays
pub mod TokensOfNodes
pub mod TreeGoals
mod TreeGoalExamples
