pub mod FormulaSheets
