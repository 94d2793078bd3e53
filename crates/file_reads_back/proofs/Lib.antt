pub mod EntriesNamed
pub mod FilesRead
pub mod SheetsFiled
pub mod SheetsResaved
