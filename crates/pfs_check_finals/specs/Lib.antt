pub mod Differences
pub mod EndTables
pub mod LostCounts
