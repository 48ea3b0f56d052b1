pub mod Parts
pub mod Stops
