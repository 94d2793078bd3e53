-- A written package reads as its values and its formulas.
use Rattle.std.proofs.Common.{◌≡◌, ℕ, Bool, true, cond, List, [], ◌∷◌, Some, None, refl, ap, ◌∙◌}
use Rattle.std.specs.Prelude.{codes, String, string_bytes}
use Rattle.std.specs.declared.alloc.Global.{Global}
use Rattle.std.specs.List.{list_all}
use Rattle.std.proofs.lemmas.Slice.Eq.{bytes_eq-Decides}
use Rattle.cell_data.specs.Words.{value_of_data, value_pairs, formula_pairs}
use Rattle.cell_data.specs.declared.range.Range.{Range}
use Rattle.cell_data.specs.declared.value.Data.{Data}
use Rattle.xlsx_values.specs.Words.{ValueContext}
use Rattle.xlsx_open.specs.Words.{OpensAs}
use Rattle.xlsx_core.specs.Words.{ReadsAs, opened_context, events_named, events_at}
use Rattle.xlsx_writer.specs.Words.{PlacedFormulas, is_writable_value, are_writable_values}
use Rattle.xlsx_writer.specs.Words.{are_writable_formulas, have_one_epoch, IsWritable, PlacedValues}
use Rattle.xlsx_writer.specs.Words.{written_parts, sheet_markup}
use Rattle.cell_refs.proofs.PositionOrder.{and_both}
use Rattle.round_trip.specs.ReadParts.{written_shared}
use Rattle.round_trip.specs.ReadStyles.{written_palette, styles_read}
use Rattle.round_trip.proofs.PackageRead.{path_is_found, relationships_are_found}
use Rattle.round_trip.proofs.PackageRead.{sheet_part_is_found}
use Rattle.round_trip.proofs.RangesPlaced.{pairs_rise, pairs_in_sheet}
use Rattle.round_trip.proofs.SharedRead.{shared_is_read}
use Rattle.round_trip.proofs.SheetHeld.{ArePlaced, CellsHaveValues, sheet_holds}
use Rattle.round_trip.proofs.CellsValued.{written_cells_have_values}
use Rattle.round_trip.proofs.ValuesPlaced.{epoch_is_read}
use Rattle.xlsx_writer.specs.declared.form.WrittenForm.{WrittenForm}
use Rattle.round_trip.proofs.RootsRead.{written_related}
use Rattle.round_trip.proofs.WorkbookRead.{opening_of, workbook_is_read, written_sheet}

-- a written package opens
pub written_opens : (form : WrittenForm) (name : List ℕ) (values : PlacedValues)
    (formulas : PlacedFormulas) →
    OpensAs (written_parts form name values formulas) (opening_of name values written_shared)
written_opens form name values formulas = record {
  path = codes "xl/workbook.xml";
  related = written_related form;
  found = path_is_found name values formulas form;
  relationships = relationships_are_found name values formulas form;
  shared = shared_is_read name values formulas form;
  workbook = workbook_is_read form name values formulas written_shared;
}

module _ (form : WrittenForm) (name : List ℕ) (values : PlacedValues)
    (formulas : PlacedFormulas) where
  sheet_is_found :
      events_named name (written_sheet name ∷ []) (written_parts form name values formulas)
      ≡ Some (sheet_markup form values formulas)
  sheet_is_found =
      ap (λ (t : Bool). events_at (cond t (Some (codes "xl/worksheets/sheet1.xml")) None)
      (written_parts form name values formulas)) ((bytes_eq-Decides name name).1 refl)
      ∙ sheet_part_is_found name values formulas form

  -- what the values of the sheet rest on
  abbrev context : ValueContext
  context = opened_context (opening_of name values written_shared)

  cells_have : are_writable_values values ≡ true → CellsHaveValues form context values formulas
  cells_have writable =
      let parts = and_both (list_all (λ e. is_writable_value e.1) values) (have_one_epoch values)
      writable in
      written_cells_have_values form context values formulas refl parts.0
      (epoch_is_read values parts.1)

  -- and so reads as the sheet
  pub written_reads_as : ArePlaced values formulas → are_writable_values values ≡ true →
      are_writable_formulas formulas ≡ true →
      ReadsAs (written_parts form name values formulas) name values formulas
      (styles_read values formulas)
  written_reads_as placed writable some = record {
    opening = opening_of name values written_shared;
    palette = written_palette;
    events = sheet_markup form values formulas;
    opens = written_opens form name values formulas;
    named = refl;
    found = sheet_is_found;
    holds =
        sheet_holds form context values formulas placed (cells_have writable) written_palette
        (and_both (list_all (λ e. is_writable_value e.1) values) (have_one_epoch values)
        writable).0 some;
  }

-- what is written of ranges that are writable reads back
pub ranges_read_as : (form : WrittenForm) (name : List ℕ) (values : Range Data)
    (formulas : Range (String Global)) → IsWritable values formulas →
    ReadsAs (written_parts form name (value_pairs values) (formula_pairs formulas)) name
    (value_pairs values) (formula_pairs formulas)
    (styles_read (value_pairs values) (formula_pairs formulas))
ranges_read_as form name values formulas writable =
    written_reads_as form name (value_pairs values) (formula_pairs formulas)
    (record {
      values_rise = pairs_rise value_of_data values;
      formulas_rise = pairs_rise string_bytes formulas;
      values_inside = pairs_in_sheet value_of_data values;
      formulas_inside = pairs_in_sheet string_bytes formulas;
    })
    writable.values_kept writable.formulas_kept
