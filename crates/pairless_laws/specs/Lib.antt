pub mod Pairless
pub mod Laws
