pub mod EndSights
pub mod StandingEnds
