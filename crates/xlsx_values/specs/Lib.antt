pub mod CellType
pub mod Value
pub mod ValueContext
pub mod Words
