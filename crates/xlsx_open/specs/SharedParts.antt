-- What the sheets of a workbook share: its strings, its theme and its styles.
use Rattle.std.specs.Prelude.{◌≡◌, ◌⊎◌, ℕ, ◌+◌, List, map, Bool, codes, string_bytes}
use Rattle.part_events.specs.Words.{Part, PackageState, CountsUp, part_of, event_count}
use Rattle.xlsx_error.specs.declared.error.XlsxError.{XlsxError}
use Rattle.cell_data.specs.declared.format.CellFormat.{CellFormat}
use Rattle.xlsx_sections.specs.Words.{IsInsideRefused, FailsBy, OptionalPartCause}
use Rattle.xlsx_sections.specs.Words.{section_events_of}
use Rattle.xlsx_formats.specs.Formattings.{StyleSaid, style_said}
use Rattle.xlsx_theme.specs.ThemePart.{theme_colors, is_theme_default, TakesTheme}
use Rattle.xlsx_stylesheet.specs.StyleSheet.{cell_formats_in, end_in_styles, HasStyles}
use Rattle.xlsx_strings.specs.Strings.{strings_in, end_in_strings, HasStrings}
use Rattle.xlsx_workbook.specs.Words.{strings_part, theme_part, styles_part}
use Rattle.xlsx_open.specs.declared.shared_parts.SharedParts.{SharedParts}

-- the shared strings, whether the default theme stands, and what the cell formats make of numbers,
-- with their styles
pub record SharedSaid : Type 0 where
  pub strings : List (List ℕ)
  pub theme_defaulted : Bool
  pub formats : List CellFormat
  pub styles : List StyleSaid

-- what the parts say that sheets share
abbrev pub shared_said : SharedParts → SharedSaid
shared_said shared = record {
  strings = map string_bytes shared.strings.items;
  theme_defaulted = shared.theme_defaulted;
  formats = shared.style_sheet.formats.items;
  styles = map style_said shared.style_sheet.styles.items;
}

-- The parts beside the workbook at this path say what its sheets share. Each may be absent. The
-- styles name colors by the theme.
pub record HasShared (parts : List Part) (path : List ℕ) (shared : SharedSaid) : Type 0 where
  pub strings : HasStrings parts (strings_part path) shared.strings
  pub theme : shared.theme_defaulted ≡ is_theme_default parts (theme_part path)
  pub styles :
      HasStyles (theme_colors parts (theme_part path)) parts (styles_part path) shared.formats
      shared.styles

-- why the shared strings can't be read
abbrev pub StringsCause : List Part → List ℕ → XlsxError → Type 0
StringsCause parts path error =
    OptionalPartCause (codes "sst") end_in_strings (IsInsideRefused strings_in)
    (part_of parts (strings_part path)) error

-- why the styles can't be read
abbrev pub StylesCause : List Part → List ℕ → XlsxError → Type 0
StylesCause parts path error =
    OptionalPartCause (codes "styleSheet") end_in_styles
    (IsInsideRefused (cell_formats_in (theme_colors parts (theme_part path))))
    (part_of parts (styles_part path)) error

-- Why what is shared can't be read. A theme is no cause: the default theme stands for a faulty one.
abbrev pub SharedCause : List Part → List ℕ → XlsxError → Type 0
SharedCause parts path error = StringsCause parts path error ⊎ StylesCause parts path error

-- when the reading of what a workbook's sheets share is refused
abbrev pub SharedFails : List ℕ → PackageState → PackageState → XlsxError → Type 0
SharedFails path old new error = FailsBy (SharedCause old.parts path) old new error

-- how many events the parts have that a workbook's sheets share
abbrev pub shared_events : List Part → List ℕ → ℕ
shared_events parts path =
    event_count parts (strings_part path)
    + (event_count parts (theme_part path) + event_count parts (styles_part path))

-- how many events of what a workbook's sheets share stand up to the ends of their sections, where
-- so many events of the theme's part count
abbrev pub shared_sections : ℕ → List Part → List ℕ → ℕ
shared_sections theme parts path =
    section_events_of (codes "sst") parts (strings_part path)
    + (theme + section_events_of (codes "styleSheet") parts (styles_part path))

-- so many events more were taken of what a workbook's sheets share, each section read to its end
-- and no further
abbrev pub TakesShared : List Part → List ℕ → ℕ → ℕ → Type 0
TakesShared parts path before after =
    (theme : ℕ) × TakesTheme parts (theme_part path) theme
    × CountsUp (shared_sections theme parts path) before after
