pub mod EventTexts
pub mod FloatsBeside
pub mod PackageTextLemmas
pub mod ReadsBack
pub mod SpellsBack
pub mod SplitsNone
pub mod WrittenTexts
