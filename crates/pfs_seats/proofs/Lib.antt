pub mod BlockPlaces
pub mod ReadySessions
pub mod BlockStarts
pub mod RunSteps
pub mod LostEventBounds
pub mod LostDigestBounds
pub mod ReportedPhases
pub mod SelectLines
mod SessionLengths
