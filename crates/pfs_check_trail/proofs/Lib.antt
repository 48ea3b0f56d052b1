mod OpenSteps
pub mod TrailSteps
