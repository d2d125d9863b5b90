pub mod Ties
pub mod Keeps
pub mod Readings
pub mod Comparing
