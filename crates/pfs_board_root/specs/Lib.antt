pub mod Roots
pub mod Settlements
pub mod Readings
