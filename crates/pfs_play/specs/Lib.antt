pub mod Errand
pub mod Errands
pub mod Needs
pub mod Repeats
