pub mod ReadFormulas
pub mod ReadSheet
pub mod ReadStyles
pub mod ReadValues
pub mod ReadParts
