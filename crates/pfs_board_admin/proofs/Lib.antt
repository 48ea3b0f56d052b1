pub mod NewWords
mod DeskLabels
pub mod QuietActions
mod VersionSums
mod Balance
mod WordFloors
mod SharedSets
pub mod LabelWords
pub mod WriterSets
pub mod DeskActions
mod Examples
