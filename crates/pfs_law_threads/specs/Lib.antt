pub mod Runs
pub mod Phases
pub mod Placed
