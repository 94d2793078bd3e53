pub mod A1
pub mod Dimensions
pub mod Positions
pub mod RefError
pub mod Reference
pub mod Scan
pub mod Words
