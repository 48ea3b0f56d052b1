pub mod CollectFacts
pub mod FloorFacts
pub mod GreatestFacts
pub mod LoadFacts
pub mod RowFacts
