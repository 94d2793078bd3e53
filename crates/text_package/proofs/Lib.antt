pub mod Texts
pub mod Stepping
pub mod Told
pub mod SpelledParts
