pub mod Bits
pub mod Fits
pub mod Shapes
pub mod Sheets
pub mod Sites
pub mod Standings
pub mod Printed
pub mod Texts
