mod BestRow
mod Examples
pub mod KeyedRows
mod LeastRole
mod NamedPlaces
mod OneObject
mod OpeningRows
