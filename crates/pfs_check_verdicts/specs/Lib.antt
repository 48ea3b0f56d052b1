pub mod PrintedSets
pub mod VerdictRules
