mod WordSteps
