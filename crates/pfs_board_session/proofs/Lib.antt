mod SessionActions
mod SeatedSteps
