pub mod SeenTokens
pub mod Endings
pub mod Moves
pub mod TokensAhead
pub mod LineBreaks
pub mod PassedTokens
pub mod ScanResults
