pub mod Closing
pub mod Cutting
pub mod Words
