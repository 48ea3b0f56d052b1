mod LastPhases
mod Runs
mod PhaseSteps
mod PlacedCalls
