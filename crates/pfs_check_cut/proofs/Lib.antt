mod BlockSteps
mod LineSteps
mod PhaseSteps
pub mod SessionSteps
