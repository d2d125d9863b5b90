-- A text's own tokens and offsets, and texts of earlier editions.
pub mod BaseLanguage
pub mod BaseScripts
pub mod DerivedWords
pub mod EarlierScripts
pub mod EarlierTokens
pub mod Frame
pub mod Readings
pub mod SeenTokens
pub mod StartPlaces
pub mod TextAlike
pub mod TextOffsets
