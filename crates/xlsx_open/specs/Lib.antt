pub mod Opening
pub mod SharedParts
pub mod Words
