mod DeedSteps
