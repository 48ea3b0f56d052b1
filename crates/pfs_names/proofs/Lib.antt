mod Lookups
pub mod Ids
