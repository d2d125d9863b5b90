mod DeclarableNames
pub mod EachPart
mod Lexically
mod Parameters
pub mod Patterns
mod Places
pub mod Results
pub mod Retold
pub mod Sets
pub mod Undone
