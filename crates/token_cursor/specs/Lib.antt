pub mod SourceText
pub mod StatementEnds
pub mod CursorState
pub mod Seen
pub mod Refusals
