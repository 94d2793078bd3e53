pub mod ObjectsErrors
pub mod RowForms
pub mod RowObjects
pub mod RowValues
