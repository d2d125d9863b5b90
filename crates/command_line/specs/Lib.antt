pub mod CommandLine
pub mod Shown
pub mod Sent
pub mod Tip
pub mod Unread
pub mod AskedLanguage
