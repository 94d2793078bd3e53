pub mod Pieces
pub mod RelatedRead
pub mod RelationshipErrors
pub mod TargetsKept
