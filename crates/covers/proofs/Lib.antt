pub mod BasePatterns
