pub mod ManyFiles
pub mod Named
pub mod Names
