pub mod Passes
mod Silent
pub mod Together
