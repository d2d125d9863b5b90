pub mod PositionRequirements
pub mod Arguments
