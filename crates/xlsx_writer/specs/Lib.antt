pub mod Escaping
pub mod Grouping
pub mod Groups
pub mod Words
pub mod Writable
pub mod WrittenSheet
pub mod Writing
