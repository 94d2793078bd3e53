use Rattle.std.proofs.Common.{ap, Option, Some, List, ℕ}
use Rattle.std.proofs.lemmas.Result.{err_from_is_err_and}
use Rattle.cell_data.specs.Words.{nothing, value_of_data, placed_cells, cells_gathered}
use Rattle.xlsx_cells.specs.Words.{values_and_styles, styled_entries}
use Rattle.xlsx_open.specs.Words.{shared_said}
use Rattle.xlsx_core.specs.Worksheets.{context_of_book, path_of}
use Rattle.xlsx_core.proofs.ShownRead.{shows_in}
use Rattle.xlsx_core.proofs.TableRanges.{no_range, area_fails}
use Rattle.xlsx_core.proofs.xlsx.Xlsx.shown_in.Goals as goal

pub returns-in_default-clause-shows : goal.returns-in_default-clause-shows
returns-in_default-clause-shows g c = λ told.
    let made = c.in_ok-from_sparse in
    rw c.in_default.is
    (no_range value_of_data made.field-0 (placed_cells c.new.result.items) nothing
    (ap placed_cells c.new.ensures.items) made.ensures.cells made.ensures.bounds
    (ap value_of_data made.ensures.blank))

pub returns-in_err-cells-clause-err : goal.returns-in_err-cells-clause-err
returns-in_err-cells-clause-err g c =
    let xlsx = c.args.self.now in
    let old = xlsx.xml.source in
    let new = c.worksheet_styled.new.self.xml.source in
    let p = err_from_is_err_and c.from_residual-in_err-cells.result
    c.from_residual-in_err-cells.ensures.1 in
    rw (p.1, p.2, c.in-Some.is)
    (area_fails values_and_styles xlsx c.args.sheet.now c.in-Some.area old new
    c.in_err-cells.field-0.0 c.in_err-cells.ensures.err)

pub returns-clause-shows : goal.returns-clause-shows
returns-clause-shows g c = λ told.
    let xlsx = c.args.self.now in
    let cells = c.in_ok-cells.cells in
    let kept = c.in_ok-cells.ensures.rest in
    rw c.in-Some.is
    (shows_in (context_of_book xlsx) (shared_said xlsx.workbook.shared) xlsx.workbook.is_1904
    xlsx.workbook.header_row c.in-Some.area (path_of xlsx c.args.sheet.now) xlsx.xml.source.parts
    (styled_entries (cells_gathered cells)) c.in_ok-shown_in_area.field-0
    (c.in_ok-cells.ensures.reads told)
    (rw kept at c.in_ok-shown_in_area.ensures))
