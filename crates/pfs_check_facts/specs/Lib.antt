pub mod Closings
pub mod FollowedLines
pub mod Moments
pub mod SessionFacts
