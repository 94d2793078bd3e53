-- The words of this crate that clauses above it cite, passed on from one place. Declares nothing.
pub use Rattle.formula_shift.specs.Areas.{area_between, area_named, is_elsewhere, last_byte}
pub use Rattle.formula_shift.specs.Areas.{own_references}
pub use Rattle.formula_shift.specs.Pieces.{PieceKind, PieceText, group_kind, group_length}
pub use Rattle.formula_shift.specs.Pieces.{joined_pieces, other_kind, piece_text, pieces}
pub use Rattle.formula_shift.specs.Pieces.{pieces_behind, pieces_left, quoted_kind, quoted_length}
pub use Rattle.formula_shift.specs.Pieces.{string_kind, string_length, word_kind}
pub use Rattle.formula_shift.specs.References.{corner_of, same_kind, shifted, word_reference}
pub use Rattle.formula_shift.specs.Relocation.{first_byte, moved, offset_between, piece_reference}
