pub mod Gaps
pub mod Items
pub mod Laws
pub mod Layout
pub mod Passes
pub mod Places
pub mod Reach
pub mod Written
