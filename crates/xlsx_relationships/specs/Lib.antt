pub mod KeptRelationships
pub mod LinkTargets
pub mod Paths
pub mod RelatedLook
pub mod RelatedParts
pub mod RelationshipErrors
pub mod Relationships
pub mod Words
