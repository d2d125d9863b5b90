-- What is read of members, calls, tagged templates and optional chains is derived.
pub mod MemberNames
pub mod OptionalChains
pub mod SubscriptNodes
pub mod SubscriptReads
