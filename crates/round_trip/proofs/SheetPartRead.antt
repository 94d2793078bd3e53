-- The part of a written sheet is sound, and says the values, the formulas and the style ids.
use Rattle.std.proofs.Common.{◌≡◌, Bool, true, List, [], ◌∷◌, ◌++◌, Some, None, sym, ap, ◌∙◌}
use Rattle.std.proofs.Common.{append_assoc, append-nil}
use Rattle.std.specs.Prelude.{Ok, codes, option_and_then, option_map, if◌then◌else◌}
use Rattle.std.specs.List.{flat_map}
use Rattle.part_events.specs.Words.{Event, end, whole, content, is_closed, behind_start, is_named}
use Rattle.written_markup.specs.Words.{element, attribute, IsNested}
use Rattle.written_markup.proofs.Nested.{nested_element, flat_map_nested, nests_itself}
use Rattle.written_markup.proofs.Nested.{content_of_element, element_is_closed}
use Rattle.xlsx_sections.specs.Words.{PartSection, section_in, section_from, inside_of}
use Rattle.xlsx_sections.specs.Words.{closed_section, has_end, if_closed}
use Rattle.xlsx_cells.specs.Words.{dimensions_in}
use Rattle.cell_refs.specs.Words.{row_reference}
use Rattle.xlsx_writer.specs.Words.{PlacedFormulas, PlacedValues, written_positions, in_rows}
use Rattle.xlsx_writer.specs.Words.{row_events, cell_events, cell_attributes, data_markup}
use Rattle.xlsx_writer.specs.Words.{sheet_markup, space_attributes, of_sheets}
use Rattle.round_trip.specs.ReadSheet.{value_in_place}
use Rattle.round_trip.proofs.CellsRead.{cell_inside, cell_nested}
use Rattle.xlsx_writer.specs.declared.form.WrittenForm.{WrittenForm}

module _ (form : WrittenForm) (values : PlacedValues) (formulas : PlacedFormulas) where
  data_nested : IsNested (data_markup form values formulas)
  data_nested =
      flat_map_nested (row_events form values formulas)
      (in_rows (written_positions values formulas))
      (λ found. nested_element (codes "row") (attribute (codes "r") (row_reference found.row))
      (flat_map (cell_events form values formulas) found.positions)
      (flat_map_nested (cell_events form values formulas) found.positions
      (λ p. nested_element (codes "c") (cell_attributes p (value_in_place values p))
      (cell_inside form formulas p (value_in_place values p))
      (cell_nested form formulas p (value_in_place values p)))))

  pub sheet_nested : IsNested (sheet_markup form values formulas)
  sheet_nested =
      nested_element (codes "worksheet") (space_attributes form of_sheets)
      (element (codes "sheetData") [] (data_markup form values formulas))
      (nested_element (codes "sheetData") [] (data_markup form values formulas) data_nested)

  -- what stands behind the start of the data
  abbrev behind_data : List Event
  behind_data =
      (data_markup form values formulas ++ end (codes "sheetData") ∷ [])
      ++ end (codes "worksheet") ∷ []

  -- the section of the sheet's data
  abbrev pub written_section : PartSection
  written_section = section_from (sheet_markup form values formulas) behind_data

  sheet_is_whole : whole (sheet_markup form values formulas) ≡ sheet_markup form values formulas
  sheet_is_whole =
      ap whole (sym (append-nil (sheet_markup form values formulas)))
      ∙ ((nests_itself (sheet_markup form values formulas) sheet_nested).whole [] []
      ∙ append-nil (sheet_markup form values formulas))

  pub data_found :
      section_in (codes "sheetData") (sheet_markup form values formulas) ≡ Some written_section
  data_found =
      ap (λ (es : List Event). option_map (section_from (sheet_markup form values formulas))
      (behind_start (is_named (codes "sheetData" ∷ [])) es)) sheet_is_whole

  pub no_dimensions : dimensions_in (whole (sheet_markup form values formulas)) ≡ Ok None
  no_dimensions = ap dimensions_in sheet_is_whole

  abbrev data_then : List Event
  data_then =
      data_markup form values formulas ++ end (codes "sheetData") ∷ end (codes "worksheet") ∷ []

  behind_is : behind_data ≡ data_then
  behind_is =
      append_assoc (data_markup form values formulas) (end (codes "sheetData") ∷ [])
      (end (codes "worksheet") ∷ [])

  pub data_closed : has_end written_section ≡ true
  data_closed =
      ap (is_closed 0) behind_is
      ∙ element_is_closed (data_markup form values formulas) (codes "sheetData")
      (end (codes "worksheet") ∷ []) data_nested

  pub data_inside : inside_of written_section ≡ data_markup form values formulas
  data_inside =
      ap (content 0) behind_is
      ∙ content_of_element (data_markup form values formulas) (codes "sheetData")
      (end (codes "worksheet") ∷ []) data_nested

  -- the data are what stands in their section
  pub data_stands :
      closed_section (codes "sheetData") (sheet_markup form values formulas)
      ≡ Some (data_markup form values formulas)
  data_stands =
      ap (λ (es : List Event).
      option_and_then if_closed (behind_start (is_named (codes "sheetData" ∷ [])) es))
      sheet_is_whole
      ∙ ap (λ (closed : Bool). if closed then Some (inside_of written_section) else None)
      data_closed
      ∙ ap (λ (es : List Event). Some es) data_inside
