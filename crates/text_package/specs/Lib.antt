pub mod PartText
pub mod Reading
pub mod TextParts
pub mod PartSpelling
