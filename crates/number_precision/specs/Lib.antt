pub mod Limbs
pub mod Digits
pub mod Precision
pub mod Near
