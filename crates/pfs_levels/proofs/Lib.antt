mod PlainActions
mod FlushedRows
mod Examples
pub mod FlushSteps
mod WordVersions
pub mod MoveLists
mod OpeningStore
mod RowWrites
mod PlainFloors
pub mod PlainChanges
pub mod ActorFloors
mod PlainLabels
pub mod NextNames
mod PlainOrder
mod PlainNumbers
mod PlainRise
pub mod PlainContents
mod PlainPhases
mod PlainCalls
