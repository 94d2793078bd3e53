pub mod DefinedNames
pub mod KeptContents
pub mod Paths
pub mod Sheets
pub mod Words
pub mod Workbook
pub mod WorkbookErrors
