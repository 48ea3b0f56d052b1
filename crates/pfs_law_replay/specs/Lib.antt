pub mod ContentReplays
pub mod EarlierChanges
pub mod SingleChanges
