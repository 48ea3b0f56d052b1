mod Examples
mod RowPlaces
pub mod LimitRanges
mod TableNames
pub mod TableTruncations
