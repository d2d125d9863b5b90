-- Statements, functions and classes, from what is found of their parts.
pub mod Blocks
pub mod BoundTargets
pub mod DanglingElse
pub mod Declarators
pub mod ExpressionStatements
pub mod ForHeads
pub mod ForLoops
pub mod ForParts
pub mod FunctionParts
pub mod MissingSemicolons
pub mod OptionalParts
pub mod ScriptFound
pub mod StatementFollow
pub mod StatementShapes
