pub mod Spots
pub mod Readings
pub mod Gaps
pub mod Rows
pub mod Quiet
pub mod Found
pub mod Laws
