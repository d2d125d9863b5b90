pub mod Outlines
pub mod Productions
pub mod Requirements
pub mod FirstSlots
