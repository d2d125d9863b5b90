pub mod Found
pub mod Sets
