pub mod PackedRowLists
pub mod Sums
pub mod Known
pub mod Free
pub mod Plainly
pub mod NodeRowNumbers
pub mod RowNodes
pub mod Tighter
