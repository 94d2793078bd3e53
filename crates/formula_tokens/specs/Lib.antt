pub mod Items
pub mod Tokens
pub mod Told
