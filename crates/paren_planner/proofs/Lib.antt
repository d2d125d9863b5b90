pub mod Results
pub mod WalkSteps
pub mod Stacks
pub mod BackwardSteps
pub mod ForwardSteps
pub mod FreeRows
pub mod WrappedRows
pub mod Bounds
pub mod Turns
pub mod Totals
pub mod MadeRows
pub mod Backwards
pub mod Forwards
pub mod CellRows
pub mod CellBounds
pub mod Heavy
pub mod Bytes
pub mod Plans
mod ExtraExamples
mod RowStarts
pub mod PairRows
pub mod Somewhere
pub mod LaidTokens
pub mod AttainedCells
pub mod ExactPlans
pub mod LinedRows
pub mod PassedNodes
pub mod PairlessSpans
