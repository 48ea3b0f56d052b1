pub mod HistoryFacts
pub mod ViewFacts
mod RuleSteps
mod Looks
mod WordSteps
mod Publications
mod Seats
mod BoardEnds
mod ValueLoans
mod ActionStarts
mod ActionEnds
mod SlotFacts
mod RowWaits
mod CallSteps
mod WordFacts
mod NextWords
mod ReadySeats
mod HandFacts
mod OwnFacts
pub mod VersionFacts
pub mod OpeningFacts
mod Examples
