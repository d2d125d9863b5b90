pub mod Made
pub mod Summaries
