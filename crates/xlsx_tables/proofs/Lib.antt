pub mod AreasInside
pub mod TablesKept
pub mod TablesRead
