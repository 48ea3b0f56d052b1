mod ActionRules
pub mod ChainRules
mod ChangeOrder
mod LabelSteps
pub mod LineNumbers
pub mod LinkSteps
pub mod PlacedFacts
pub mod PrintedPlaces
mod PrintedSteps
mod RisingSteps
