-- What is read of a list is derived.
pub mod CaseClauses
pub mod Declarators
pub mod ListEnds
pub mod ListReadings
pub mod ListRefusals
pub mod ListSummaries
pub mod OneMoreItem
pub mod OwnItems
pub mod ReadItems
pub mod TemplateDelimiters
pub mod TemplateElements
pub mod WholeLists
