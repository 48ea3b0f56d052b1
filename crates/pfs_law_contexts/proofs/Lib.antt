mod ContextWalks
mod NumberedActions
mod QuietParts
mod SourceSteps
