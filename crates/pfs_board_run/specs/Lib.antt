pub mod BoardRuns
pub mod JobLists
