-- How high a node may be for the bytes that spell it.
pub mod Heights
pub mod Levels
pub mod LevelsOfExpressions
pub mod LevelsOfNodes
