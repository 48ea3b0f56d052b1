mod LowestPlaces
pub mod FilledPlaces
pub mod PlaceBounds
mod SessionCounts
pub mod SlotOwners
pub mod ConnectionTotals
mod PlaceLoops
pub mod TruncationBounds
mod InfoExamples
