pub mod EqualReadings
mod SkippedNumbers
mod Examples
pub mod Members
pub mod TestedNumbers
mod ReadSteps
