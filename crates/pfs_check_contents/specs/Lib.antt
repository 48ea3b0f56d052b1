pub mod ChangeReplays
pub mod HeldEvents
pub mod KeptContents
pub mod OrderlyChanges
pub mod PlacedChanges
pub mod RowEffects
pub mod RunningReplays
