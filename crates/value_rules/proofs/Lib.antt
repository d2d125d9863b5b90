mod Passes
pub mod Together
