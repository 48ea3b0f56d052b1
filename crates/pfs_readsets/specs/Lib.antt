pub mod TablePlaces
pub mod ReadSets
pub mod ReadProgress
