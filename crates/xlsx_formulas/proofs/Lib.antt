pub mod Cells
pub mod Emptiness
pub mod Groups
pub mod SameMetadata
pub mod Starts
