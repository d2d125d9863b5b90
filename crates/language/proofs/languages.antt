-- The languages: which trees and tokens are of the base profile alone.
pub mod BaseHeads
pub mod BaseTrees
