-- The cells of a range alone have its area.
use Rattle.std.proofs.Common.{◌≡◌, ℕ, List, sym, ◌∙◌, ap}
use Rattle.cell_refs.specs.Words.{last_of_each, least_area}
use Rattle.cell_data.proofs.LeastAreas.{least_last}
use Rattle.cell_data.proofs.Placing.{last_rising, rising_last}
use Rattle.cell_data.specs.Words.{CellValue, value_pairs, formula_pairs}
use Rattle.cell_data.specs.declared.range.Range.{Range}
use Rattle.cell_data.specs.declared.value.Data.{Data}
use Rattle.cell_data.specs.declared.value.HeaderRow.TheVariants.{FirstNonEmptyRow}
use Rattle.xlsx_core.specs.Worksheets.{IsValueRange, IsFormulaRange, HasLeastRange, HasLeastRanges}
use Rattle.xlsx_core.specs.declared.sheet_reading.SheetReading.{SheetReading}

module _ {X : Type 0} where
  last_again : (es kept : List ((ℕ × ℕ) × X)) → kept ≡ last_of_each es → kept ≡ last_of_each kept
  last_again es kept is =
      is ∙ rising_last (last_of_each es) (last_rising es) ∙ sym (ap last_of_each is)

  least_kept : (es kept : List ((ℕ × ℕ) × X)) → kept ≡ last_of_each es
      → least_area es ≡ least_area kept
  least_kept es kept is = sym (least_last es) ∙ sym (ap least_area is)

-- ---- the ranges of a sheet

pub least_values : (values : List ((ℕ × ℕ) × CellValue)) (range : Range Data)
    → IsValueRange FirstNonEmptyRow values range → HasLeastRange range
least_values values range valued = record {
  cells = last_again values (value_pairs range) valued.cells;
  bounds = valued.bounds ∙ least_kept values (value_pairs range) valued.cells;
  blank = valued.blank;
}

pub least_ranges : (values : List ((ℕ × ℕ) × CellValue)) (formulas : List ((ℕ × ℕ) × List ℕ))
    (found : SheetReading) → IsValueRange FirstNonEmptyRow values found.values
    → IsFormulaRange formulas found.formulas → HasLeastRanges found
least_ranges values formulas found valued written = (
  least_values values found.values valued,
  record {
    cells = last_again formulas (formula_pairs found.formulas) written.cells;
    bounds = written.bounds ∙ least_kept formulas (formula_pairs found.formulas) written.cells;
    blank = written.blank;
  },
)
