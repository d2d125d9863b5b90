pub mod Completions
pub mod Reaches
pub mod FunctionBodies
pub mod Laws
