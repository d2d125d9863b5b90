pub mod Steps
pub mod Quotes
mod Rows
pub mod Lines
pub mod Lists
pub mod Objects
pub mod Floatless
pub mod Sent
pub mod Identifiers
pub mod SentTexts
