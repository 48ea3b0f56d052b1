mod BlockVisits
pub mod EntryCounts
mod LineVisits
mod VisitSteps
