pub mod Draws
pub mod GeneratedScript
