pub mod SetupRows
pub mod Updates
pub mod Deletes
pub mod Inserts
pub mod ChangeLaws
pub mod ChangeExamples
pub mod HeldRows
pub mod HeldExamples
