pub mod SeatNumbers
pub mod BetweenPhases
pub mod PhaseResults
pub mod TakenSeats
pub mod PhaseLaws
