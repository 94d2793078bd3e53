pub mod Book
pub mod Numbers
pub mod Structured
pub mod Told
