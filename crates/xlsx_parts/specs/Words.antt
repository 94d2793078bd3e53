-- The words of this crate that clauses above it cite, passed on from one place. Declares nothing.
pub use Rattle.xlsx_parts.specs.FirstElement.{FirstElementCause, IsElementRefused, StartAhead}
pub use Rattle.xlsx_parts.specs.FirstElement.{element_from, element_in, element_with, first_said}
pub use Rattle.xlsx_parts.specs.FirstElement.{first_start}
pub use Rattle.xlsx_parts.specs.ManyAsked.{Appends, Leads, each, map_each}
pub use Rattle.xlsx_parts.specs.PartSaid.{all_said, if_whole, is_whole, lacking_or, ok_or_none}
pub use Rattle.xlsx_parts.specs.PartSaid.{part_said, put_together, section_said, section_said_or}
pub use Rattle.xlsx_parts.specs.PartSaid.{unless_absent, whole_said}
pub use Rattle.xlsx_parts.specs.SheetPaths.{SheetPath, sheet_at}
pub use Rattle.xlsx_parts.specs.WholePart.{EndsPart, FindSectionFails, IfThere, IsBreakError}
pub use Rattle.xlsx_parts.specs.WholePart.{IsBroken, IsMeaningRefused, IsOpenError, LackingCause}
pub use Rattle.xlsx_parts.specs.WholePart.{SomeCause, StepFails, WholePartCause, WholePartFails}
