pub mod MissingParts
pub mod Shown
