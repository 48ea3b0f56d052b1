mod EarlierChanges
mod Examples
pub mod ReplayedContents
pub mod RowChanges
mod SingleChanges
