-- The words of this crate that clauses above it cite, passed on from one place. Declares nothing.
pub use Rattle.xlsx_formulas.specs.Described.{Description, described, description_seen}
pub use Rattle.xlsx_formulas.specs.Formula.{FormulaText, GroupFormula, Sharing, behind_formulas}
pub use Rattle.xlsx_formulas.specs.Formula.{cell_formula, child_formula, covered, covers_along}
pub use Rattle.xlsx_formulas.specs.Formula.{covers_in, covers_of, covers_with, derived, formula_of}
pub use Rattle.xlsx_formulas.specs.Formula.{formula_of_last, formula_text, formulas_in, master}
pub use Rattle.xlsx_formulas.specs.Formula.{master_of, moved_to, or_further, own, said_formula}
pub use Rattle.xlsx_formulas.specs.Formula.{shared_by, shared_in, shared_numbered, shared_text}
pub use Rattle.xlsx_formulas.specs.Formula.{sharing_from, sharing_of, some_formula, with_sharing}
pub use Rattle.xlsx_formulas.specs.Kept.{AreMasters, covers_seen, formula_seen, last_seen}
pub use Rattle.xlsx_formulas.specs.Kept.{text_of_formula}
