pub mod DueSets
pub mod PrintedActions
pub mod SetupRules
