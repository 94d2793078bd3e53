-- What is read of the data of a written sheet: its formulas, its style ids and its values, in
-- the order of the positions.
use Rattle.std.proofs.Common.{◌≡◌, ℕ, ◌<◌, Bool, true, false, cond, List, [], map, Some, ap, ap₂}
use Rattle.std.proofs.Common.{arith}
use Rattle.std.proofs.lemmas.Bool.Decides.{nat_tests}
use Rattle.std.specs.Prelude.{Ok, Result, codes, nat_lt}
use Rattle.cell_refs.specs.Words.{is_rising, row_reference}
use Rattle.cell_refs.proofs.PositionOrder.{and_both}
use Rattle.cell_data.specs.Words.{AreInSheet}
use Rattle.part_events.specs.Words.{Event, Element}
use Rattle.xlsx_sections.specs.Words.{Refusal, answer_further, count_behind}
use Rattle.xlsx_values.specs.Words.{ValueContext, cell_value}
use Rattle.xlsx_cells.specs.Words.{Mark, at_position, placed_formulas, formulas_written}
use Rattle.xlsx_cells.specs.Words.{placed_value, values_in, placed_id, ids_in}
use Rattle.written_markup.specs.Words.{attribute}
use Rattle.xlsx_writer.specs.Words.{PlacedFormulas, formula_held, written_formula, is_same_position}
use Rattle.xlsx_writer.specs.Words.{is_master, grouped_formula, group_head, group_end, group_index}
use Rattle.xlsx_writer.specs.Words.{plain, master, derived, PlacedValues, written_positions}
use Rattle.xlsx_writer.specs.Words.{cell_attributes, data_markup}
use Rattle.xlsx_writer.specs.declared.form.WrittenForm.TheVariants.{PackageText, WorkbookFile}
use Rattle.round_trip.specs.ReadFormulas.{formulas_read, formulas_read_along}
use Rattle.round_trip.specs.ReadSheet.{lies_on_sheet, value_in_place, values_read_along, id_read}
use Rattle.round_trip.proofs.CellsRead.{cell_inside, cell_nested, nested_passed, row_placed}
use Rattle.round_trip.proofs.CellsRead.{FormulaReads, cell_gives_formulas, cell_gives_id}
use Rattle.round_trip.proofs.CellsRead.{cell_placed}
use Rattle.round_trip.proofs.DataRead.{CellGives, Gives, gives_data, cell_tag}
use Rattle.round_trip.proofs.FormulaTexts.{FormulaFits, formula_reads}
use Rattle.round_trip.proofs.SheetBounds.{on_sheet_parts, written_on_sheet, end_fits, index_fits}
use Rattle.xlsx_writer.specs.declared.form.WrittenForm.{WrittenForm}

module _ (form : WrittenForm) (values : PlacedValues) (formulas : PlacedFormulas)
    (one : AreInSheet values) (two : AreInSheet formulas) where
  -- the attributes and the inside of a position's cell
  abbrev attributes : ℕ × ℕ → List ℕ
  attributes p = cell_attributes p (value_in_place values p)

  abbrev inside : ℕ × ℕ → List Event
  inside p = cell_inside form formulas p (value_in_place values p)

  -- a row lies on a sheet
  abbrev is_row : ℕ → Bool
  is_row row = nat_lt row 1048576

  row_fits : (p : ℕ × ℕ) → lies_on_sheet p ≡ true → is_row p.0 ≡ true
  row_fits p on = (and_both (nat_lt p.0 1048576) (nat_lt p.1 16384) on).0

  -- what each cell gives by itself is what the data give
  pub data_give : {A : Type 0} (answer : List Mark → Element → Result A Refusal)
      (tell : ℕ × ℕ → A) →
      ((p : ℕ × ℕ) → lies_on_sheet p ≡ true → CellGives answer (attributes p) (inside p) (tell p)) →
      Gives answer (data_markup form values formulas) (map tell (written_positions values formulas))
  data_give answer tell each =
      gives_data answer lies_on_sheet attributes inside tell
      (λ p. nested_passed (inside p)
      (cell_nested form formulas p (value_in_place values p))) each is_row
      (λ row. attribute (codes "r") (row_reference row))
      (λ row fits. row_placed row (row_inside row fits)) row_fits
      (written_positions values formulas) (written_on_sheet values formulas one two) where
        row_inside : (row : ℕ) → nat_lt row 1048576 ≡ true → row < 1048576
        row_inside row fits = grind (arith, nat_tests)

  pub ids_of_data : ids_in (data_markup form values formulas)
      ≡ Ok (map (id_read values) (written_positions values formulas))
  ids_of_data =
      data_give placed_id (id_read values)
      (λ p on. let parts = on_sheet_parts p on in
      cell_gives_id p (value_in_place values p) (inside p) parts.0 parts.1) []

  pub formulas_of_data :
      ((p : ℕ × ℕ) (formula : List ℕ) → lies_on_sheet p ≡ true →
      formula_held formulas p ≡ Some formula →
      FormulaReads p (written_formula form formulas p formula)) →
      formulas_written (data_markup form values formulas)
      ≡ Ok (formulas_read_along form formulas (written_positions values formulas))
  formulas_of_data reads =
      data_give placed_formulas (λ p. (p, formulas_read form formulas p))
      (λ p on. let parts = on_sheet_parts p on in
      cell_gives_formulas form formulas p (value_in_place values p) parts.0 parts.1
      (λ formula placed. reads p formula on placed)) []

-- the numbers of each formula of a group fit
grouped_fits : (formulas : PlacedFormulas) → is_rising formulas ≡ true → AreInSheet formulas →
    (p : ℕ × ℕ) (formula : List ℕ) → lies_on_sheet p ≡ true →
    FormulaFits p (grouped_formula formulas p formula)
grouped_fits formulas rising are p formula on =
    by (is_same_position (group_head formulas p) p) (is_master formulas p)
    (on_sheet_parts p on) where
      by : (t u : Bool) → (p.0 < 1048576) × (p.1 < 16384) →
          FormulaFits p (cond t (cond u
          (master formula (group_end formulas p) (group_index formulas p)) (plain formula))
          (derived (group_index formulas (group_head formulas p))))
      by true true parts = record {
        row = parts.0;
        column = parts.1;
        last_row = end_fits formulas p are parts.0;
        number = index_fits formulas p rising are;
      }
      by true false parts = tt
      by false u parts = index_fits formulas (group_head formulas p) rising are

-- and so do those of each written formula
written_fits : (form : WrittenForm) (formulas : PlacedFormulas) → is_rising formulas ≡ true →
    AreInSheet formulas → (p : ℕ × ℕ) (formula : List ℕ) → lies_on_sheet p ≡ true →
    FormulaFits p (written_formula form formulas p formula)
written_fits PackageText formulas rising are p formula on =
    grouped_fits formulas rising are p formula on
written_fits WorkbookFile formulas rising are p formula on = tt

-- the formulas that are written
pub formulas_of_sheet : (form : WrittenForm) (values : PlacedValues) (formulas : PlacedFormulas)
    → AreInSheet values →
    AreInSheet formulas → is_rising formulas ≡ true →
    formulas_written (data_markup form values formulas)
    ≡ Ok (formulas_read_along form formulas (written_positions values formulas))
formulas_of_sheet form values formulas one two rising =
    formulas_of_data form values formulas one two
    (λ p formula on placed. formula_reads p (written_formula form formulas p formula)
    (written_fits form formulas rising two p formula on))

-- the values, where each cell gives its own
pub values_of_sheet : (form : WrittenForm) (context : ValueContext) (values : PlacedValues)
    (formulas : PlacedFormulas) →
    AreInSheet values → AreInSheet formulas →
    ((p : ℕ × ℕ) → lies_on_sheet p ≡ true →
    cell_value context (cell_tag (cell_attributes p (value_in_place values p)))
    (cell_inside form formulas p (value_in_place values p)) ≡ Ok (value_in_place values p)) →
    values_in context (data_markup form values formulas)
    ≡ Ok (values_read_along values (written_positions values formulas))
values_of_sheet form context values formulas one two reads =
    data_give form values formulas one two (placed_value context)
    (λ p. (p, value_in_place values p))
    (λ p on before behind. let parts = on_sheet_parts p on in
    ap₂ at_position (cell_placed before p (value_in_place values p) parts.0 parts.1)
    (ap (answer_further (count_behind (record {
      tag = cell_tag (cell_attributes p (value_in_place values p));
      inside = cell_inside form formulas p (value_in_place values p);
      behind = behind;
    }))) (reads p on))) []
