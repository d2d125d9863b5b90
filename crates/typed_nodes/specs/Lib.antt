pub mod Arity
pub mod Functions
pub mod Expressions
pub mod Patterns
pub mod Statements
pub mod Pieces
pub mod ClassElements
pub mod Modules
