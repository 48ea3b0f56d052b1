pub mod FirstRows
pub mod Opened
