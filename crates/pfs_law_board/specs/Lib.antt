pub mod PhaseEnds
pub mod EndReadings
