pub mod MovedItems
pub mod MovedNaming
pub mod OwnSheet
