pub mod Cells
pub mod FoundContents
pub mod DigestRows
pub mod Heads
pub mod RowValues
pub mod ReadingSteps
pub mod Summaries
