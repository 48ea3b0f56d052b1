mod RuleSteps
