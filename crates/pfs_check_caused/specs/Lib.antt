pub mod CauseRules
