pub mod PartTestLemmas
pub mod SearchLemmas
pub mod PartCounts
pub mod SilentLemmas
mod CalmLemmas
pub mod WalkLemmas
pub mod Together
pub mod DueLemmas
pub mod ValueSearchLemmas
pub mod PathLemmas
pub mod RiskLemmas
pub mod HandedLemmas
pub mod RemarkLemmas
