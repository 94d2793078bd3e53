-- Each cell that is written is read as the value of its position.
use Rattle.std.proofs.Common.{◌≡◌, ℕ, Bool, true, Option, Some, None, refl}
use Rattle.std.specs.FinMap.{find}
use Rattle.std.specs.List.{list_all}
use Rattle.std.specs.Option.{unwrap_or}
use Rattle.cell_refs.specs.Words.{position_cmp}
use Rattle.cell_data.specs.Words.{CellValue, nothing}
use Rattle.xlsx_values.specs.Words.{ValueContext}
use Rattle.xlsx_writer.specs.Words.{PlacedFormulas, formula_held, is_writable_value, counts_from}
use Rattle.xlsx_writer.specs.Words.{PlacedValues}
use Rattle.round_trip.specs.ReadSheet.{value_in_place}
use Rattle.round_trip.specs.ReadValues.{IsKeptAs, written_formats}
use Rattle.round_trip.proofs.SheetBounds.{on_sheet_parts}
use Rattle.round_trip.proofs.SheetHeld.{CellsHaveValues}
use Rattle.round_trip.proofs.ValuesPlaced.{found_passes}
use Rattle.round_trip.proofs.ValuesRead.{cell_value_read, written_reads_back}
use Rattle.xlsx_writer.specs.declared.form.WrittenForm.{WrittenForm}

-- the value at a position, or nothing, reads back
value_reads_back : (is_1904 : Bool) (values : PlacedValues) (p : ℕ × ℕ)
    → ((v : CellValue) → find position_cmp p values ≡ Some v → IsKeptAs is_1904 v)
    → IsKeptAs is_1904 (value_in_place values p)
value_reads_back is_1904 values p each = by (find position_cmp p values) each where
  by : (o : Option CellValue) → ((v : CellValue) → o ≡ Some v → IsKeptAs is_1904 v)
      → IsKeptAs is_1904 (unwrap_or o nothing)
  by None each = tt
  by (Some v) each = each v refl

-- where each value reads back, each cell has its value
pub cells_have_values : (form : WrittenForm) (context : ValueContext) (values : PlacedValues)
    (formulas : PlacedFormulas)
    → context.formats ≡ written_formats
    → ((p : ℕ × ℕ) (v : CellValue) → find position_cmp p values ≡ Some v
    → IsKeptAs context.is_1904 v)
    → CellsHaveValues form context values formulas
cells_have_values form context values formulas are each p on =
    cell_value_read form context are formulas p (formula_held formulas p)
    (value_in_place values p)
    (on_sheet_parts p on).0 (value_reads_back context.is_1904 values p (each p))

-- values that are written, and count from the first year, are read in their cells
pub written_cells_have_values : (form : WrittenForm) (context : ValueContext)
    (values : PlacedValues)
    (formulas : PlacedFormulas)
    → context.formats ≡ written_formats → list_all (λ e. is_writable_value e.1) values ≡ true
    → list_all (λ e. counts_from context.is_1904 e.1) values ≡ true
    → CellsHaveValues form context values formulas
written_cells_have_values form context values formulas are written counts =
    cells_have_values form context values formulas are
    (λ p v found. written_reads_back context.is_1904 v
    (found_passes is_writable_value values p v written found)
    (found_passes (counts_from context.is_1904) values p v counts found))
