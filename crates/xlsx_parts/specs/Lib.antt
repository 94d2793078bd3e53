pub mod FirstElement
pub mod ManyAsked
pub mod PartElements
pub mod PartSaid
pub mod SheetPaths
pub mod WholePart
pub mod Words
