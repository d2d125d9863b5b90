pub mod Costs
pub mod Weighed
pub mod Rows
pub mod Packed
pub mod Tables
