-- What single calls answer of a cell, apart from where its texts lie in memory.
use Rattle.std.specs.Prelude.{ℕ, List, Option, option_map, string_bytes}
use Rattle.cell_data.specs.Words.{CellValue, value_of_data_ref}
use Rattle.xlsx_formulas.specs.Words.{Description, description_seen}
use Rattle.xlsx_cells.specs.declared.cell_records.XlsxCellFormula.{XlsxCellFormula}
use Rattle.xlsx_cells.specs.declared.cell_records.XlsxCellFormulaMetadataRecord.{
  XlsxCellFormulaMetadataRecord,
}

-- a cell with its formula, by position, value and text
abbrev pub formula_cell : XlsxCellFormula → (ℕ × ℕ) × CellValue × Option (List ℕ)
formula_cell own = (own.pos, value_of_data_ref own.value, option_map string_bytes own.formula)

-- a cell with the metadata of its formula, by position, value and description
abbrev pub metadata_cell : XlsxCellFormulaMetadataRecord → (ℕ × ℕ) × CellValue × Option Description
metadata_cell own =
    (own.pos, value_of_data_ref own.value, option_map description_seen own.formula)
