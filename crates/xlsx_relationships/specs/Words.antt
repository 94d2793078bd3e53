-- The words of this crate that clauses above it cite, passed on from one place. Declares nothing.
pub use Rattle.xlsx_relationships.specs.KeptRelationships.{related_by_id, relationship_of}
pub use Rattle.xlsx_relationships.specs.LinkTargets.{HoldsTargets, LinkTarget, LinkTargetsCause}
pub use Rattle.xlsx_relationships.specs.LinkTargets.{link_targets, link_targets_in, link_text}
pub use Rattle.xlsx_relationships.specs.LinkTargets.{target_held, target_in}
pub use Rattle.xlsx_relationships.specs.Paths.{behind_slash, folder_of, last_piece}
pub use Rattle.xlsx_relationships.specs.Paths.{relationships_beside, without_slash}
pub use Rattle.xlsx_relationships.specs.RelatedLook.{each_related, related_ask, related_look}
pub use Rattle.xlsx_relationships.specs.RelatedParts.{all_lead_to, target_path, typed_target}
pub use Rattle.xlsx_relationships.specs.RelationshipErrors.{IsRelatedError}
pub use Rattle.xlsx_relationships.specs.Relationships.{AreRelationshipsRefused, IsPathRefused}
pub use Rattle.xlsx_relationships.specs.Relationships.{IsTargetRefused, Related, path_in}
pub use Rattle.xlsx_relationships.specs.Relationships.{related_by, related_from, related_in}
pub use Rattle.xlsx_relationships.specs.Relationships.{relationship_starts, target_by}
