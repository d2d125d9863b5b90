pub mod Source
pub mod Lines
pub mod LineBytes
pub mod Located
pub mod Spaces
pub mod Io
pub mod Memory
pub mod Writing
