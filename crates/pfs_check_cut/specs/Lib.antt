pub mod CutReports
pub mod Sessions
