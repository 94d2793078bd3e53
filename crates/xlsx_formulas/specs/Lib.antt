pub mod Described
pub mod Formula
pub mod Kept
pub mod Refused
pub mod Words
