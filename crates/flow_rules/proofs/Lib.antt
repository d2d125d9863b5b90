mod SumLemmas
mod WalkLemmas
pub mod Together
mod LabelLemmas
mod PlainNodes
mod TextLemmas
