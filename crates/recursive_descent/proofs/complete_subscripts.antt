-- A given derivation of members, calls, tagged templates and optional chains is read.
pub mod ArgumentsGiven
pub mod CalleesGiven
pub mod ChainsGiven
pub mod ChainsOnSpine
pub mod NewGiven
pub mod SubscriptAgreement
pub mod SubscriptsGiven
pub mod SubscriptsOnSpine
pub mod SuperGiven
pub mod TemplatesGiven
