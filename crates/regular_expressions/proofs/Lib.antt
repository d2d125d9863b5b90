mod PatternRows
mod LongCounts
pub mod Productions
pub mod Escapes
pub mod ClassSteps
pub mod PatternSteps
pub mod Numbers
pub mod NameSteps
pub mod EarlySteps
pub mod Words
pub mod SlashSteps
pub mod TermSteps
