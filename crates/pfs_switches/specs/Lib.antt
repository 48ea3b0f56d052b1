pub mod History
pub mod Knowledge
pub mod LoadOrder
pub mod Rule
pub mod OpeningWords
pub mod SeatViews
pub mod SharedKnowledge
pub mod Plays
