mod PlainSteps
mod PlainActions
