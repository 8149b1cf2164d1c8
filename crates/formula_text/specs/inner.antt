pub mod FormulaAnswers
