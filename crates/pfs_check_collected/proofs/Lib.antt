mod CollectSteps
