pub mod Versions
pub mod Deeds
pub mod Phases
pub mod Floors
pub mod Causes
pub mod Contents
pub mod Tickets
