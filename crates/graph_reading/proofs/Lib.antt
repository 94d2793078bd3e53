pub mod FormulaSheets
pub mod FormulasPushed
pub mod ReadingFails
