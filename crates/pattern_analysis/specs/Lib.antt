pub mod ClassValues
pub mod Marks
pub mod Misleading
pub mod Read
pub mod ReadReferences
pub mod UselessReferences
