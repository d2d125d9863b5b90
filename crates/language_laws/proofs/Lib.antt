pub mod OtherLanguages
pub mod EachLanguage
