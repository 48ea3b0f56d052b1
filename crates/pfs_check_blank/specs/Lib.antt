pub mod AllAsked
pub mod BlankStores
pub mod ReadyStores
