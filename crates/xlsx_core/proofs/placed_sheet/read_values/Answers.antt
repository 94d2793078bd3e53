use Rattle.cell_data.specs.Words.{cells_gathered}
use Rattle.xlsx_cells.specs.Words.{with_texts, value_entries, formula_entries}
use Rattle.xlsx_core.specs.Opened.{path_lent}
use Rattle.xlsx_core.specs.SheetReading.{events_at}
use Rattle.xlsx_core.specs.Worksheets.{IsValueRange}
use Rattle.xlsx_values.specs.Words.{context_of}
use Rattle.xlsx_core.proofs.RangesRead.{values_answered}
use Rattle.xlsx_core.proofs.placed_sheet.read_values.Goals as goal

pub returns-clause-reads : goal.returns-clause-reads
returns-clause-reads g c = λ told.
    let old = c.args.xml.now.source in
    let context = context_of c.args.asked.book in
    let cells = c.in_ok-cells.cells in
    let range = c.in_ok-value_range.field-0 in
    values_answered (events_at (path_lent c.args.path) old.parts) context
    c.args.asked.style_count (value_entries (cells_gathered cells.values))
    (formula_entries (cells_gathered cells.formulas)) cells.style_ids.items
    (λ values. IsValueRange c.args.header_row (with_texts context.strings values) range)
    (rw c.requires at (c.in_ok-cells.ensures.reads told)) c.in_ok-value_range.ensures
