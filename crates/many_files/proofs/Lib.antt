pub mod ListedNames
pub mod ManyTold
