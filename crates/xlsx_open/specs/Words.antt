-- The words of this crate that clauses above it cite, passed on from one place. Declares nothing.
pub use Rattle.xlsx_open.specs.Opening.{BookCause, FailsToOpen, HasNothing, HasPath}
pub use Rattle.xlsx_open.specs.Opening.{HasRelationships, HasScopes, HasWorkbook, HoldsOpening}
pub use Rattle.xlsx_open.specs.Opening.{IsOpening, IsOpeningError, LiesIn, ListedSheet, Opening}
pub use Rattle.xlsx_open.specs.Opening.{OpeningCause, OpeningFails, OpensAs, OpensFrom}
pub use Rattle.xlsx_open.specs.Opening.{OpensSoundly, TakesOpening, TakesSections, TellsScopes}
pub use Rattle.xlsx_open.specs.Opening.{epoch_or_1900, listed_sheet, scopes_at, without_path}
pub use Rattle.xlsx_open.specs.SharedParts.{HasShared, SharedCause, SharedSaid, shared_said}
