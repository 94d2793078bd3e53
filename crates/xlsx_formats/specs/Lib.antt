pub mod FormatCodes
pub mod Formattings
