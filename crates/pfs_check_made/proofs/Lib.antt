mod PutSteps
