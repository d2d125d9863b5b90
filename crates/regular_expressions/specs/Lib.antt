pub mod PropertyNames
pub mod Characters
pub mod Classes
pub mod Names
pub mod Terms
pub mod Patterns
pub mod Scanned
