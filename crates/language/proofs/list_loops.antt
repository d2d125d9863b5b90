-- Lists as a loop reads them, and what is read so far.
pub mod ClassBodies
pub mod CommaLists
pub mod DeclaratorLists
pub mod FirstItems
pub mod FirstPieces
pub mod ForDeclarationLists
pub mod ParameterLists
pub mod PiecesSoFar
pub mod Prologues
pub mod StatementLists
pub mod TemplateElements
