pub mod JudgedFalls
pub mod PlacedDeeds
