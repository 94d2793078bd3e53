pub mod Contents
pub mod SameSheets
pub mod WorkbookErrors
