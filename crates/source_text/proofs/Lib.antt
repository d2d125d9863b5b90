pub mod Lines
mod LineEnds
mod LineExamples
pub mod Pieces
pub mod EndsMeet
