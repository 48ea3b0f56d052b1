mod LaterSets
mod LowSets
pub mod QuietActors
mod SharedPhases
mod LastReleases
mod EndReadings
mod Examples
mod PhaseExamples
