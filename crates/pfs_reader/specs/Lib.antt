pub mod PlainReadings
pub mod Readings
