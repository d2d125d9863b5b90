pub mod Uses
pub mod Found
pub mod Sets
