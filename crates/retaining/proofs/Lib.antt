pub mod RetainSteps
pub mod CommentLines
pub mod LineEnds
pub mod WordLists
