pub mod BookRead
pub mod GraphError
pub mod GraphRead
