mod DeedLevels
mod FirstFalls
mod FloorSteps
mod Predecessors
