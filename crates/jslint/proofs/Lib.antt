pub mod UnreadFiles
pub mod HelpAnswers
pub mod ListRuns
