pub mod ReadTexts
pub mod JoinedTexts
