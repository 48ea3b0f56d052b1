pub mod ListPlaces
mod WrittenSteps
