pub mod History
pub mod Knowledge
pub mod Rule
pub mod Plays
pub mod WholeSeats
pub mod SeatViews
pub mod TicketLaws
