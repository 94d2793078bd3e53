-- The styles that are written are read as three formats of numbers.
use Rattle.std.proofs.Common.{◌≡◌, ℕ, List, [], ◌∷◌, ◌++◌, Some, None, refl, sym, ap, ◌∙◌}
use Rattle.std.proofs.Common.{append-nil}
use Rattle.std.specs.Prelude.{Ok, codes}
use Rattle.attr_text.specs.Words.{lookup, value_of, first_value}
use Rattle.std.specs.Str.{bytes_eq}
use Rattle.cell_styles.specs.declared.color.Color.{Color}
use Rattle.written_markup.specs.Words.{element, attribute, AreWritablePairs, IsNested, none}
use Rattle.written_markup.proofs.Nested.{nested_element, nested_in_row}
use Rattle.written_markup.proofs.PairsReadBack.{lookup_written, value_written}
use Rattle.cell_data.specs.declared.format.CellFormat.TheVariants.{Other, DateTime, TimeDelta}
use Rattle.xlsx_stylesheet.specs.Lists.{diagonal_keys}
use Rattle.written_markup.proofs.TextsReadBack.{decoded_encoded}
use Rattle.xlsx_styles.specs.Fonts.{value_changed}
use Rattle.xlsx_formats.specs.Formattings.{FormattingSaid, formatting_keys, style_said}
use Rattle.xlsx_sections.specs.Words.{closed_section}
use Rattle.xlsx_stylesheet.specs.StyleSheet.{cell_formats_in, AreStyles}
use Rattle.xlsx_writer.specs.Words.{cell_format, cell_formats, style_events, style_inside}
use Rattle.xlsx_writer.specs.Words.{style_front, style_behind, font_list, fill_list, fill_with}
use Rattle.xlsx_writer.specs.Words.{border_list, style_formats, bare, space_attributes, of_sheets}
use Rattle.xlsx_writer.specs.declared.form.WrittenForm.{WrittenForm}
use Rattle.xlsx_writer.specs.declared.form.WrittenForm.TheVariants.{PackageText, WorkbookFile}
use Rattle.round_trip.specs.ReadStyles.{style_of_format, written_styles}
use Rattle.round_trip.specs.ReadValues.{written_formats}
use Rattle.round_trip.proofs.RootsRead.{root_read}

format_looked_up : (id : List ℕ) → AreWritablePairs ((codes "numFmtId", id) ∷ []) →
    lookup formatting_keys (attribute (codes "numFmtId") id)
    ≡ Ok (Some id ∷ None ∷ None ∷ None ∷ [])
format_looked_up id are =
    ap (lookup formatting_keys) (sym (append-nil (attribute (codes "numFmtId") id)))
    ∙ lookup_written formatting_keys ((codes "numFmtId", id) ∷ []) are

-- what is read of them
abbrev pub formattings_read : List FormattingSaid
formattings_read =
    record { format = Other; style = style_said (style_of_format 0 (codes "General")) }
    ∷ record { format = DateTime; style = style_said (style_of_format 14 (codes "mm-dd-yy")) }
    ∷ record { format = TimeDelta; style = style_said (style_of_format 46 (codes "[h]:mm:ss")) }
    ∷ []

formats_read : (theme : List Color) → cell_formats_in theme cell_formats ≡ Ok formattings_read
formats_read theme =
    rw (
      format_looked_up (codes "0") (record { key = refl; value = refl }, tt),
      format_looked_up (codes "14") (record { key = refl; value = refl }, tt),
      format_looked_up (codes "46") (record { key = refl; value = refl }, tt),
    ) refl

-- an attribute alone is found
alone_found : (key value : List ℕ) → AreWritablePairs ((key, value) ∷ []) →
    value_of key (attribute key value)
    ≡ Ok (first_value (bytes_eq key) (Ok (key, value) ∷ []))
alone_found key value are =
    ap (value_of key) (sym (append-nil (attribute key value)))
    ∙ value_written key ((key, value) ∷ []) are

-- what stands in front of them, and behind, says nothing of them
pub formats_are_read : (form : WrittenForm) (theme : List Color) →
    cell_formats_in theme (style_inside form) ≡ Ok formattings_read
unfolding value_changed
formats_are_read PackageText theme = formats_read theme
formats_are_read WorkbookFile theme =
    rw (
      alone_found (codes "val") (codes "11") (record { key = refl; value = refl }, tt),
      alone_found (codes "val") (codes "Calibri") (record { key = refl; value = refl }, tt),
      decoded_encoded (codes "Calibri"),
      alone_found (codes "patternType") (codes "none") (record { key = refl; value = refl }, tt),
      alone_found (codes "patternType") (codes "gray125")
          (record { key = refl; value = refl }, tt),
      lookup_written diagonal_keys [] tt,
      format_looked_up (codes "0") (record { key = refl; value = refl }, tt),
      format_looked_up (codes "14") (record { key = refl; value = refl }, tt),
      format_looked_up (codes "46") (record { key = refl; value = refl }, tt),
    ) refl

pub styles_are_read : AreStyles written_formats written_styles formattings_read
styles_are_read = (refl, refl)

format_nested : (id : List ℕ) → IsNested (cell_format id)
format_nested id = nested_element (codes "xf") (attribute (codes "numFmtId") id) [] none

formats_nested : IsNested cell_formats
formats_nested =
    nested_element (codes "cellXfs") []
    (cell_format (codes "0") ++ (cell_format (codes "14") ++ cell_format (codes "46")))
    (nested_in_row (cell_format (codes "0")) (cell_format (codes "14") ++ cell_format (codes "46"))
    (format_nested (codes "0"))
    (nested_in_row (cell_format (codes "14")) (cell_format (codes "46"))
    (format_nested (codes "14")) (format_nested (codes "46"))))

bare_nested : (name key value : List ℕ) → IsNested (bare name key value)
bare_nested name key value = nested_element name (attribute key value) [] none

fill_nested : (pattern : List ℕ) → IsNested (fill_with pattern)
fill_nested pattern =
    nested_element (codes "fill") []
    (bare (codes "patternFill") (codes "patternType") pattern)
    (bare_nested (codes "patternFill") (codes "patternType") pattern)

font_nested : IsNested font_list
font_nested =
    let size = bare (codes "sz") (codes "val") (codes "11") in
    let name = bare (codes "name") (codes "val") (codes "Calibri") in
    nested_element (codes "fonts") [] (element (codes "font") [] (size ++ name))
    (nested_element (codes "font") [] (size ++ name)
    (nested_in_row size name (bare_nested (codes "sz") (codes "val") (codes "11"))
    (bare_nested (codes "name") (codes "val") (codes "Calibri"))))

front_nested : (form : WrittenForm) → IsNested (style_front form)
front_nested PackageText = none
front_nested WorkbookFile =
    nested_in_row font_list (fill_list ++ (border_list ++ style_formats)) font_nested
    (nested_in_row fill_list (border_list ++ style_formats)
    (nested_element (codes "fills") []
    (fill_with (codes "none") ++ fill_with (codes "gray125"))
    (nested_in_row (fill_with (codes "none")) (fill_with (codes "gray125"))
    (fill_nested (codes "none")) (fill_nested (codes "gray125"))))
    (nested_in_row border_list style_formats
    (nested_element (codes "borders") [] (element (codes "border") [] [])
    (nested_element (codes "border") [] [] none))
    (nested_element (codes "cellStyleXfs") [] (cell_format (codes "0"))
    (format_nested (codes "0")))))

behind_nested : (form : WrittenForm) → IsNested (style_behind form)
behind_nested PackageText = none
behind_nested WorkbookFile =
    let attributes =
    attribute (codes "name") (codes "Normal") ++ (attribute (codes "xfId") (codes "0")
    ++ attribute (codes "builtinId") (codes "0")) in
    nested_element (codes "cellStyles") [] (element (codes "cellStyle") attributes [])
    (nested_element (codes "cellStyle") attributes [] none)

pub style_sheet_read : (form : WrittenForm) →
    closed_section (codes "styleSheet") (style_events form) ≡ Some (style_inside form)
style_sheet_read form =
    root_read (codes "styleSheet") (space_attributes form of_sheets) (style_inside form)
    (nested_in_row (style_front form) (cell_formats ++ style_behind form) (front_nested form)
    (nested_in_row cell_formats (style_behind form) formats_nested (behind_nested form))) refl
