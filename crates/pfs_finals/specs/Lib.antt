pub mod Counters
pub mod Finals
