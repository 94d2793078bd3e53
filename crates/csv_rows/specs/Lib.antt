pub mod CsvErrors
pub mod RowSteps
pub mod RowsText
pub mod Settings
