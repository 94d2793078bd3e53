-- A written package says what its sheets share.
use Rattle.std.proofs.Common.{◌≡◌, ℕ, List, Some, refl, sym, subst}
use Rattle.std.specs.Prelude.{Result, codes, IsOkAnd, Option, IsSomeAnd}
use Rattle.cell_styles.specs.declared.color.Color.{Color}
use Rattle.part_events.specs.Words.{Event, part_of}
use Rattle.xlsx_sections.specs.Words.{Refusal}
use Rattle.xlsx_formats.specs.Formattings.{FormattingSaid}
use Rattle.xlsx_stylesheet.specs.StyleSheet.{cell_formats_in, AreStyles, HasStyles}
use Rattle.xlsx_theme.specs.ThemePart.{theme_colors}
use Rattle.xlsx_workbook.specs.Words.{styles_part, theme_part}
use Rattle.xlsx_open.specs.Words.{HasShared}
use Rattle.xlsx_writer.specs.Words.{PlacedFormulas, PlacedValues, style_events, style_inside}
use Rattle.xlsx_writer.specs.WrittenSheet.{written_parts}
use Rattle.xlsx_writer.specs.declared.form.WrittenForm.{WrittenForm}
use Rattle.xlsx_writer.specs.declared.form.WrittenForm.TheVariants.{PackageText, WorkbookFile}
use Rattle.round_trip.specs.ReadParts.{written_shared}
use Rattle.round_trip.specs.ReadStyles.{written_styles}
use Rattle.round_trip.specs.ReadValues.{written_formats}
use Rattle.round_trip.proofs.StylesRead.{style_sheet_read, formats_are_read, styles_are_read}

module _ (name : List ℕ) (values : PlacedValues) (formulas : PlacedFormulas) where
  styles_found : (form : WrittenForm) →
      part_of (written_parts form name values formulas) (styles_part (codes "xl/workbook.xml"))
      ≡ Some (style_events form)
  unfolding written_parts
  styles_found PackageText = refl
  styles_found WorkbookFile = refl

  styles_have : (form : WrittenForm) (theme : List Color) →
      IsOkAnd (cell_formats_in theme (style_inside form)) (AreStyles written_formats written_styles)
  styles_have form theme =
      subst (λ (answer : Result (List FormattingSaid) Refusal).
      IsOkAnd answer (AreStyles written_formats written_styles))
      (sym (formats_are_read form theme)) styles_are_read

  written_has_styles : (form : WrittenForm) (theme : List Color) →
      HasStyles theme (written_parts form name values formulas)
      (styles_part (codes "xl/workbook.xml")) written_formats written_styles
  written_has_styles form theme =
      rw (styles_found form)
      (subst (λ (own : Option (List Event)). IsSomeAnd own (λ inside.
      IsOkAnd (cell_formats_in theme inside) (AreStyles written_formats written_styles)))
      (sym (style_sheet_read form)) (styles_have form theme))

  -- strings and a theme are absent
  pub shared_is_read : (form : WrittenForm) →
      HasShared (written_parts form name values formulas) (codes "xl/workbook.xml") written_shared
  unfolding written_parts
  shared_is_read PackageText = record {
    strings = refl;
    theme = refl;
    styles =
        written_has_styles PackageText
        (theme_colors (written_parts PackageText name values formulas)
        (theme_part (codes "xl/workbook.xml")));
  }
  shared_is_read WorkbookFile = record {
    strings = refl;
    theme = refl;
    styles =
        written_has_styles WorkbookFile
        (theme_colors (written_parts WorkbookFile name values formulas)
        (theme_part (codes "xl/workbook.xml")));
  }
