pub mod SeenRules
