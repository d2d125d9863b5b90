pub mod BuiltIn
pub mod Tests
pub mod Rows
pub mod Found
pub mod Laws
