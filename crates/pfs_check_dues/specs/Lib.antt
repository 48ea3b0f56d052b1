pub mod DueRules
pub mod OwedPuts
