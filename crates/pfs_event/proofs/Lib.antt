mod BracketLemmas
mod Examples
mod SameEvent
pub mod WordLemmas
pub mod Logs
