pub mod Bits
mod Examples
mod Levels
