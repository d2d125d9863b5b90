pub mod PartsAtIndices
pub mod ChainParts
pub mod Tables
pub mod SlotPositions
pub mod Points
pub mod Lists
pub mod OutlineWays
pub mod Plain
pub mod Productions
pub mod FirstTokens
pub mod ExpressionTable
pub mod Bare
pub mod PartsAfter
pub mod Given
pub mod LastParts
pub mod OtherTable
pub mod StatementTable
pub mod ModuleTable
pub mod ModuleParts
pub mod Ways
pub mod Wherever
pub mod ExpressionSlots
pub mod Slots
pub mod Cursors
pub mod LeafOutlines
pub mod SlotSteps
mod StartsByRow
mod GroupingExamples
