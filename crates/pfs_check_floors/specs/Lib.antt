pub mod CollectedGivens
pub mod KeyedGivens
pub mod KnownFloors
pub mod ReleasedRows
pub mod RowNames
pub mod WordLoads
