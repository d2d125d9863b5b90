pub mod OneReading
pub mod CommentSteps
pub mod NoteSteps
pub mod ReadSteps
pub mod CompareSteps
pub mod BeginningLines
pub mod KeptComments
pub mod FirstRows
mod KeepsExamples
