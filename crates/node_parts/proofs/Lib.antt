pub mod SmallerFields
pub mod SmallerViews
pub mod SmallerPieces
