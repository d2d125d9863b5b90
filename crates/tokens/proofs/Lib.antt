mod LexicalExamples
mod TokenExamples
pub mod Beginnings
pub mod Longest
pub mod PassedCharacters
pub mod TriviaSteps
pub mod Names
pub mod PrivateNames
pub mod Hashbangs
pub mod PlainRuns
pub mod QuickLexemes
pub mod Sets
pub mod Classes
pub mod TokenUniqueness
pub mod Automata
pub mod Numerals
pub mod Parts
pub mod EscapeParts
pub mod StringScans
pub mod LiteralValues
pub mod WordMatches
pub mod Utf8Tokens
pub mod Punctuators
pub mod ScannedTokens
pub mod Bounds
pub mod Expressions
pub mod EarlierWords
pub mod EarlierClasses
