pub mod OrderAnswers
