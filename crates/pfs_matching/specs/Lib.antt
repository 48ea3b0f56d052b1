pub mod ActorRules
pub mod KeyedRows
pub mod ObjectRules
pub mod RowWays
