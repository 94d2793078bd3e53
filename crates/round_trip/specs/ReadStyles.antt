-- The styles that are read of those that are written: they say nothing but how numbers are written.
use Rattle.std.specs.Prelude.{ℕ, List, [], ◌∷◌, codes, map, Some, None}
use Rattle.cell_styles.specs.Words.{StyleMap, styles_of}
use Rattle.cell_styles.specs.declared.style.Style.{Style}
use Rattle.xlsx_formats.specs.Formattings.{StyleSaid, style_said}
use Rattle.xlsx_writer.specs.Words.{PlacedFormulas, PlacedValues, written_positions}
use Rattle.round_trip.specs.ReadSheet.{id_read}

-- the style of a number format, by its id and its code
abbrev pub style_of_format : ℕ → List ℕ → Style
style_of_format id code = record {
  font = None;
  fill = None;
  borders = None;
  alignment = None;
  number_format = Some (record { format_code = code; format_id = Some id });
  protection = None;
}

-- the styles of a cell without a format, of a date and of a duration
abbrev pub written_palette : List Style
written_palette =
    style_of_format 0 (codes "General") ∷ style_of_format 14 (codes "mm-dd-yy")
    ∷ style_of_format 46 (codes "[h]:mm:ss") ∷ []

-- what the styles say that are written: those of a cell without a format, of a date and of a
-- duration
abbrev pub written_styles : List StyleSaid
written_styles = map style_said written_palette

-- the styles that are read of the cells of these values and formulas
abbrev pub styles_read : PlacedValues → PlacedFormulas → StyleMap
styles_read values formulas =
    styles_of written_palette (map (id_read values) (written_positions values formulas))
