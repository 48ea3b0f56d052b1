pub mod QuitCosts
pub mod SignLists
mod LoopLists
pub mod OpeningState
pub mod FoldSteps
mod RowReleases
pub mod ActionRows
mod Examples
mod TruncationExamples
pub mod KindCells
mod LevelRows
mod LevelMoves
pub mod WordChanges
mod InfoPlaces
mod TruncationCosts
pub mod StatementWords
