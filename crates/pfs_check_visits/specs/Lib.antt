pub mod ReportVisits
pub mod Visits
