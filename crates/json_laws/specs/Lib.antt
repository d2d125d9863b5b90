pub mod Placeless
pub mod Laws
