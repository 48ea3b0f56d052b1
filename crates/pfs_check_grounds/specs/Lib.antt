pub mod RuleAnswers
