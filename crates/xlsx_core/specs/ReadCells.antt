-- The cells of a sheet as they came, and what they rest on.
use Rattle.std.specs.Prelude.{◌≡◌, ℕ, List, map, length, string_bytes, Option, Some, IsSomeAnd}
use Rattle.cell_data.specs.Words.{cells_gathered}
use Rattle.cell_styles.specs.declared.style.Style.{Style}
use Rattle.part_events.specs.Words.{Event, Part}
use Rattle.xlsx_cells.specs.Words.{value_entries, formula_entries, LieInSheet}
use Rattle.xlsx_open.specs.Words.{Opening, OpensAs}
use Rattle.xlsx_values.specs.Words.{ValueContext}
use Rattle.xlsx_core.specs.SheetReading.{events_at, events_named, opened_context, all_wanted}
use Rattle.xlsx_core.specs.SheetReading.{IsPaletteOf}
use Rattle.xlsx_core.specs.Worksheets.{HoldsWanted}
use Rattle.xlsx_core.specs.declared.as_read.ReadCells.{ReadCells}

-- the shared strings that stand beside cells
abbrev pub strings_beside : ReadCells → List (List ℕ)
strings_beside read = map string_bytes read.shared.strings.items

-- the styles that stand beside cells, which their ids name
abbrev pub palette_beside : ReadCells → List Style
palette_beside read = read.shared.style_sheet.styles.items

-- all cells lie on a worksheet
abbrev pub LieOnSheet : ReadCells → Type 0
LieOnSheet read =
    LieInSheet (cells_gathered read.cells.values) (cells_gathered read.cells.formulas)
    read.cells.style_ids.items

-- the part at a path, of a workbook with these context and styles, holds these cells
abbrev pub ReadsCells :
    ValueContext → List Style → Option (List ℕ) → List Part → ReadCells → Type 0
ReadsCells context palette path parts read =
    IsSomeAnd (events_at path parts)
    (λ events. HoldsWanted all_wanted context (length palette) events
    (value_entries (cells_gathered read.cells.values))
    (formula_entries (cells_gathered read.cells.formulas)) read.cells.style_ids.items)

-- the workbook opens, with these strings and styles, and the part of its sheet of this name holds
-- these cells
pub record HoldsCells (parts : List Part) (name : List ℕ) (read : ReadCells) : Type 0 where
  pub opening : Opening
  pub events : List Event
  pub opens : OpensAs parts opening
  pub named : IsPaletteOf opening (palette_beside read)
  pub strings : strings_beside read ≡ opening.shared.strings
  pub found : events_named name opening.sheets parts ≡ Some events
  pub holds :
      HoldsWanted all_wanted (opened_context opening) (length (palette_beside read)) events
      (value_entries (cells_gathered read.cells.values))
      (formula_entries (cells_gathered read.cells.formulas)) read.cells.style_ids.items
