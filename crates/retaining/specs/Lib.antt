pub mod Retains
pub mod Comparing
