pub mod SeatSplits
pub mod SeatJoins
mod PhaseEnds
mod ReadCalls
mod OwnReadings
mod Looks
mod LaterActors
