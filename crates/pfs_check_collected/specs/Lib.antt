pub mod CollectedChanges
