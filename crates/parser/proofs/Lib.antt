pub mod ShortTexts
pub mod Refusals
pub mod EarlierTexts
