mod CutSteps
mod LineSteps
