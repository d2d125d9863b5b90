pub mod BoundNames
pub mod DeclaredNames
pub mod PatternParts
pub mod Keys
pub mod Sets
pub mod Tables
pub mod DeclaratorParts
