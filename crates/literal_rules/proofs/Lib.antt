mod BareNodes
mod Passes
mod Reading
pub mod Together
