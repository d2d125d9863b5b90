pub mod MendSteps
pub mod RebuiltSteps
pub mod SpliceSteps
pub mod CommentRuns
pub mod ReportedChanges
pub mod NameSteps
mod MendExamples
