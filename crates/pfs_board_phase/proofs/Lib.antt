mod PhaseSpells
mod TakenSeats
mod PhaseSeats
mod PhaseActors
pub mod SeatNumbers
mod PhaseLosses
mod PhaseRoom
pub mod PhaseEnds
mod PhaseSteps
mod PhaseRuns
mod ResultLoops
