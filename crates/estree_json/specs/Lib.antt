pub mod Texts
pub mod Fields
pub mod Json
pub mod Table
pub mod Sent
pub mod Primitives
pub mod Estree
