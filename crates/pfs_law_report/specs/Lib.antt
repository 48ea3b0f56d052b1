pub mod LostCounts
pub mod PhaseEnds
pub mod ReportableRuns
