pub mod EntryLines
pub mod LineCounts
