pub mod MadeChanges
pub mod TagWords
