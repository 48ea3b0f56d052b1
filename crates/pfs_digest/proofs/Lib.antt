mod PassAnswers
mod BracketPasses
mod Examples
mod ListFolds
mod Fusion
mod Joins
mod SpelledPieces
mod StackSteps
mod WordSearch
pub mod Bytes
