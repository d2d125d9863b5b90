-- A given derivation of properties and members of classes is read.
pub mod DefinitionsComplete
pub mod MemberEndings
pub mod FieldsGiven
pub mod DefinitionsGiven
pub mod NamesGiven
pub mod ValuesGiven
pub mod FieldsComplete
pub mod StaticBlocksComplete
