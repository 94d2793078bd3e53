pub mod Texts
pub mod AttributesFit
pub mod EventsFit
pub mod WordsWritten
pub mod PartsFit
