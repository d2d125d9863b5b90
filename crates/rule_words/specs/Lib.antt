pub mod Reports
pub mod Order
pub mod Appends
