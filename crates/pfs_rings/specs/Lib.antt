pub mod RingPlaces
pub mod Offers
pub mod RingExamples
