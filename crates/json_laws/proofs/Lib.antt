pub mod Told
pub mod Lists
pub mod SameTrees
pub mod PlacesAside
pub mod Counts
pub mod DerivedNodes
pub mod JsonTells
mod Examples
