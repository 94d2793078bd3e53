pub mod CellObjects
pub mod SampleLines
pub mod SheetListing
