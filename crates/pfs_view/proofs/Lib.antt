mod AnswerPlaces
pub mod GridLaws
pub mod GridLists
mod LineSteps
mod OutcomeSteps
mod Outcomes
mod PlacedWrites
mod RefusalReadings
mod ScriptFits
mod TextSteps
mod WidenSteps
mod WidthLists
pub mod WrittenParts
mod WrongLines
