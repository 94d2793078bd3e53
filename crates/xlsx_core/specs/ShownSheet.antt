-- A sheet as a spreadsheet program shows its cells.
use Rattle.std.specs.Prelude.{◌≡◌, ℕ, List, Bool, map, codes, slice_get, Option, IsSomeAnd}
use Rattle.std.specs.Option.{option_and_then, option_map_or}
use Rattle.part_events.specs.Words.{Event, Part}
use Rattle.cell_data.specs.Words.{CellValue, text, with_meaning}
use Rattle.cell_refs.specs.Words.{last_of_each}
use Rattle.cell_styles.specs.Words.{NumberFormatFields, StyleMap}
use Rattle.shown_text.specs.Words.{shown_text}
use Rattle.xlsx_formats.specs.Formattings.{StyleSaid}
use Rattle.xlsx_sections.specs.Words.{PartSection, inside_of}
use Rattle.xlsx_values.specs.Words.{ValueContext, resolved}
use Rattle.xlsx_cells.specs.Words.{styled_values, HoldsStyledValues}
use Rattle.xlsx_cells.specs.declared.children.Wants.{Wants}
use Rattle.xlsx_open.specs.Words.{SharedSaid}
use Rattle.xlsx_core.specs.SheetReading.{ReadsAs, events_at}
use Rattle.xlsx_core.specs.Worksheets.{HasSheetData}

-- the code of the number format of a style, and General without one
abbrev pub style_code : Option StyleSaid → List ℕ
style_code style =
    option_map_or (λ (format : NumberFormatFields). format.format_code)
    (option_and_then (λ (own : StyleSaid). own.number_format) style) (codes "General")

-- the code under which a cell with this style id is shown
abbrev pub code_at : List StyleSaid → ℕ → List ℕ
code_at styles id = style_code (slice_get styles id)

-- a value with the style id of its cell, as the text that is shown of it
abbrev pub shown_value : SharedSaid → Bool → CellValue × ℕ → CellValue
shown_value shared is_1904 own =
    text (shown_text is_1904 (code_at shared.styles own.1) (resolved shared.strings own.0))

-- cells with values and style ids, as they are shown
abbrev pub shown_cells :
    SharedSaid → Bool → List ((ℕ × ℕ) × (CellValue × ℕ)) → List ((ℕ × ℕ) × CellValue)
shown_cells shared is_1904 cells = map (with_meaning (shown_value shared is_1904)) cells

-- the sheet of this name is read, and each last value that counts is shown as here, under the code
-- of the style of its own cell
pub record ShownAs
    (parts : List Part) (name : List ℕ) (shown : List ((ℕ × ℕ) × CellValue)) : Type 0 where
  pub values : List ((ℕ × ℕ) × CellValue)
  pub formulas : List ((ℕ × ℕ) × List ℕ)
  pub styles : StyleMap
  pub reads : ReadsAs parts name values formulas styles
  pub cells :
      let opening = reads.opening in
      shown ≡ last_of_each (shown_cells opening.shared opening.is_1904
      (styled_values reads.holds.all reads.holds.ids))

-- a sheet's part is sound but for what isn't wanted, and these are its values that count, each with
-- the style id of its cell
pub record HasStyledValues
    (wants : Wants) (context : ValueContext) (events : List Event)
    (found : List ((ℕ × ℕ) × (CellValue × ℕ))) : Type 0 where
  pub section : PartSection
  pub sheet : HasSheetData events section
  pub held : HoldsStyledValues wants context (inside_of section) found

-- the sheet whose part is at a path is shown as here, where formulas are sound if they are wanted
abbrev pub ShowsPlaced :
    Wants → ValueContext → SharedSaid → Bool → Option (List ℕ) → List Part
    → List ((ℕ × ℕ) × CellValue)
    → Type 0
ShowsPlaced wants context shared is_1904 path parts shown =
    IsSomeAnd (events_at path parts) (λ events. (found : List ((ℕ × ℕ) × (CellValue × ℕ)))
    × HasStyledValues wants context events found
    × (shown ≡ last_of_each (shown_cells shared is_1904 found)))
