pub mod Words
pub mod Changes
pub mod Mends
pub mod Splices
pub mod KeptComments
pub mod Mended
pub mod Making
