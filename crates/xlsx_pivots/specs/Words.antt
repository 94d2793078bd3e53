-- The words of this crate that clauses above it cite, passed on from one place. Declares nothing.
pub use Rattle.xlsx_pivots.specs.PivotErrors.{IsPivotsError}
pub use Rattle.xlsx_pivots.specs.PivotTables.{pair_given, pairs_left, pairs_of, paths_of}
pub use Rattle.xlsx_pivots.specs.PivotTables.{pivots_kept}
pub use Rattle.xlsx_pivots.specs.Pivots.{PivotSaid, PivotsCause, pivot_type, pivots_ask}
pub use Rattle.xlsx_pivots.specs.Pivots.{pivots_look, pivots_of, pivots_on_ask, pivots_on_look}
pub use Rattle.xlsx_pivots.specs.Targets.{definitions_at}
