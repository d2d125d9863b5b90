mod FormExamples
mod FaultExamples
pub mod KindNames
pub mod SoundBound
pub mod Faultless
pub mod CheckedRows
pub mod CellRows
pub mod Bounds
pub mod WeighedNodes
pub mod FreeLeaves
pub mod FaultAnswers
pub mod Numerals
pub mod LinesAndWords
pub mod TableTexts
pub mod FirstWrongLine
pub mod WrittenLines
pub mod Fronts
pub mod CellWords
pub mod RowLines
