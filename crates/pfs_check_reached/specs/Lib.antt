pub mod MadeWords
pub mod ReachedChanges
