mod BlockEnds
mod FoundSlots
mod LineNames
mod MetAsks
pub mod BlockQuits
mod PlayedLines
pub mod RepeatKinds
pub mod SomeSetting
mod BlockNeeds
