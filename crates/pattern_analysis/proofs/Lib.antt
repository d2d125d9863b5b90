mod FrameSearch
mod MarkOrder
mod MarkSteps
mod NumberSearch
pub mod ReadSteps
mod ReferenceSteps
