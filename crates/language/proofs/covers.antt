-- Covers: what an expression may still become.
pub mod CoverElements
pub mod CoverEnds
pub mod CoverItems
pub mod CoverKeys
pub mod CoverLists
pub mod CoverListsSoFar
pub mod CoverMethods
pub mod CoverObjects
pub mod CoverProperties
pub mod CoverPunctuators
pub mod CoverReadings
pub mod CoverRests
pub mod CoverSpreads
pub mod PatternsByToken
