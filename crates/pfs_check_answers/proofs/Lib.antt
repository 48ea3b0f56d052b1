mod AnswerLines
pub mod AskedBlocks
mod BlockWalk
mod EntryReadings
mod FreeWords
mod HeldAnswers
mod LineSteps
mod Misreads
pub mod NamedVersions
mod PartEntries
pub mod PartShapes
mod ReadPrefixes
mod RowDifferences
mod SelectSteps
mod StoredAnswers
mod WalkSteps
