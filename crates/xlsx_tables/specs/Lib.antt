pub mod TableErrors
pub mod TableParts
pub mod Tables
