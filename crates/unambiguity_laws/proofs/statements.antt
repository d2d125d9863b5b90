-- Statements and declarations are the only ones at their place.
pub mod AsyncStatements
pub mod Bodies
pub mod ConditionStatements
pub mod Declarations
pub mod ExpressionStatements
pub mod ForDeclarations
pub mod ForFirstParts
pub mod ForParts
pub mod ForStatements
pub mod FunctionBodies
pub mod FunctionForms
pub mod FunctionStatements
pub mod StatementEnds
pub mod StatementFacts
pub mod StatementsByToken
pub mod Switches
pub mod Tries
