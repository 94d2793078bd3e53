pub mod Markup
pub mod Words
pub mod WrittenText
pub mod Nests
