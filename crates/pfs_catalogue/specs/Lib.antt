pub mod Columns
pub mod TableCommands
pub mod LetterCases
