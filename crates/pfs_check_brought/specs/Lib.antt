pub mod BroughtRules
pub mod HistoryCounts
pub mod KeptDues
pub mod StoppedWalks
