pub mod Brackets
pub mod FormulaText
pub mod FormulaWriting
pub mod ReadBack
