-- An open workbook apart from its package.
use Rattle.std.specs.Prelude.{ℕ, List, Option, map, string_bytes}
use Rattle.cell_styles.specs.declared.style.Style.{Style}
use Rattle.part_events.specs.Words.{Part}
use Rattle.xlsx_open.specs.Words.{Opening, HoldsOpening, OpensAs}
use Rattle.xlsx_values.specs.Words.{ValueContext}
use Rattle.xlsx_core.specs.Opened.{path_listed}
use Rattle.xlsx_core.specs.SheetReading.{context_with}
use Rattle.xlsx_core.specs.declared.workbook.Workbook.{Workbook}

-- a workbook holds what it was opened as
abbrev pub IsWorkbookOf : Opening → Workbook → Type 0
IsWorkbookOf opening workbook =
    HoldsOpening workbook.metadata workbook.paths.items workbook.shared workbook.is_1904 opening

-- these parts open, and the workbook holds what they open as
abbrev pub OpensInto : List Part → Workbook → Type 0
OpensInto parts workbook =
    (opening : Opening) × IsWorkbookOf opening workbook × OpensAs parts opening

-- the path of the part of the first sheet of a name, in what is known of a workbook
abbrev pub first_sheet_path : Workbook → List ℕ → Option (List ℕ)
first_sheet_path workbook name = path_listed name workbook.metadata.sheets.items
    workbook.paths.items

-- what the values of a workbook's cells rest on, in what is known of it
abbrev pub context_in : Workbook → ValueContext
context_in workbook =
    context_with (map string_bytes workbook.shared.strings.items)
    workbook.shared.style_sheet.formats.items workbook.is_1904

-- the styles that the ids of a workbook's cells name, in what is known of it
abbrev pub palette_in : Workbook → List Style
palette_in workbook = workbook.shared.style_sheet.styles.items
