pub mod EntryNumbers
pub mod LineSteps
