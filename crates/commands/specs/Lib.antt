pub mod Commands
pub mod WholeTexts
pub mod Refused
pub mod Refusal
