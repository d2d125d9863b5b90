pub mod Leaving
pub mod NormalCompletions
pub mod RuleLaws
pub mod Unreached
pub mod Jumps
mod CompletionExamples
