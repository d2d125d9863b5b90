-- What is read of properties and members of classes is derived.
pub mod MethodWays
pub mod Definitions
pub mod MethodItems
pub mod Methods
pub mod Modifiers
pub mod PropertyNames
pub mod PropertyValues
pub mod FieldKeys
pub mod Fields
pub mod StaticBlocks
pub mod MemberWords
pub mod OwnMembers
