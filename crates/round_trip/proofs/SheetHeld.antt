-- A written sheet holds its values and its formulas, and the styles of its ids.
use Rattle.std.proofs.Common.{◌≡◌, ℕ, true, List, map, None, refl, sym, ap, ◌∙◌}
use Rattle.std.specs.Prelude.{Ok}
use Rattle.std.specs.List.{list_all}
use Rattle.cell_refs.specs.Words.{is_rising, last_of_each}
use Rattle.cell_data.specs.Words.{AreInSheet}
use Rattle.cell_data.proofs.Placing.{rising_last}
use Rattle.cell_styles.specs.Words.{styles_of}
use Rattle.cell_styles.specs.declared.style.Style.{Style}
use Rattle.xlsx_values.specs.Words.{ValueContext, cell_value}
use Rattle.xlsx_cells.specs.Words.{values_in, formulas_written, with_texts, IsSoundSheet, ids_in}
use Rattle.xlsx_core.specs.Words.{HoldsSheet}
use Rattle.xlsx_writer.specs.Words.{PlacedFormulas, is_writable_value, are_writable_formulas}
use Rattle.xlsx_writer.specs.Words.{PlacedValues, written_positions, cell_attributes, sheet_markup}
use Rattle.round_trip.specs.ReadFormulas.{formulas_read_along}
use Rattle.round_trip.specs.ReadSheet.{lies_on_sheet, value_in_place, values_read_along, id_read}
use Rattle.round_trip.proofs.CellsRead.{cell_inside}
use Rattle.round_trip.proofs.DataRead.{cell_tag}
use Rattle.round_trip.proofs.GroupsRead.{formulas_read_back}
use Rattle.round_trip.proofs.SheetPartRead.{written_section, data_found, no_dimensions, data_closed}
use Rattle.round_trip.proofs.SheetPartRead.{data_inside}
use Rattle.round_trip.proofs.SheetRead.{ids_of_data, formulas_of_sheet, values_of_sheet}
use Rattle.round_trip.proofs.ValuesPlaced.{values_read_back, values_resolved}
use Rattle.round_trip.proofs.WrittenPositions.{written_rise, formulas_among}
use Rattle.xlsx_writer.specs.declared.form.WrittenForm.{WrittenForm}

-- values and formulas by their positions, row by row, on a sheet
pub record ArePlaced (values : PlacedValues) (formulas : PlacedFormulas) : Type 0 where
  pub values_rise : is_rising values ≡ true
  pub formulas_rise : is_rising formulas ≡ true
  pub values_inside : AreInSheet values
  pub formulas_inside : AreInSheet formulas

-- each cell that is written is read as its value
abbrev pub CellsHaveValues : WrittenForm → ValueContext → PlacedValues → PlacedFormulas → Type 0
CellsHaveValues form context values formulas =
    (p : ℕ × ℕ) → lies_on_sheet p ≡ true →
    cell_value context (cell_tag (cell_attributes p (value_in_place values p)))
    (cell_inside form formulas p (value_in_place values p)) ≡ Ok (value_in_place values p)

module _ (form : WrittenForm) (context : ValueContext) (values : PlacedValues)
    (formulas : PlacedFormulas)
    (placed : ArePlaced values formulas) (have : CellsHaveValues form context values formulas) where
  pub sheet_is_sound :
      IsSoundSheet context (sheet_markup form values formulas)
      (values_read_along values (written_positions values formulas))
      (formulas_read_along form formulas (written_positions values formulas))
      (map (id_read values) (written_positions values formulas))
  sheet_is_sound = record {
    section = written_section form values formulas;
    area = None;
    found = data_found form values formulas;
    dimensions = no_dimensions form values formulas;
    closed = data_closed form values formulas;
    valued =
        ap (values_in context) (data_inside form values formulas)
        ∙ values_of_sheet form context values formulas placed.values_inside placed.formulas_inside
        have;
    written =
        ap formulas_written (data_inside form values formulas)
        ∙ formulas_of_sheet form values formulas placed.values_inside placed.formulas_inside
        placed.formulas_rise;
    styled =
        ap ids_in (data_inside form values formulas)
        ∙ ids_of_data form values formulas placed.values_inside placed.formulas_inside;
  }

  pub sheet_holds : (palette : List Style) → list_all (λ e. is_writable_value e.1) values ≡ true →
      are_writable_formulas formulas ≡ true →
      HoldsSheet context palette (sheet_markup form values formulas) values formulas
      (styles_of palette (map (id_read values) (written_positions values formulas)))
  sheet_holds palette written some = record {
    all = values_read_along values (written_positions values formulas);
    written = formulas_read_along form formulas (written_positions values formulas);
    ids = map (id_read values) (written_positions values formulas);
    sheet = sheet_is_sound;
    valued =
        rising_last values placed.values_rise
        ∙ ap last_of_each
        (sym (ap (with_texts context.strings)
        (values_read_back values formulas placed.values_rise written)
        ∙ values_resolved context.strings values written));
    listed =
        rising_last formulas placed.formulas_rise
        ∙ ap last_of_each
        (sym (formulas_read_back form formulas (written_positions values formulas)
        placed.formulas_rise (written_rise values formulas) (formulas_among values formulas) some));
    styled = refl;
  }
