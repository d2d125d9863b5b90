pub mod PairPlaces
pub mod WidestWays
pub mod PairlessNodes
pub mod FreeSpans
pub mod FreeParts
mod PairlessExamples
