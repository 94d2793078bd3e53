use Rattle.std.proofs.Common.{ap, length, subst, ◌∙◌, List, String, Global, map, string_bytes}
use Rattle.cell_data.specs.Words.{cells_gathered, nothing, value_of_data, placed_cells}
use Rattle.cell_data.specs.declared.value.HeaderRow.{HeaderRow}
use Rattle.xlsx_cells.specs.Words.{values_alone, value_entries, formula_entries, with_texts}
use Rattle.xlsx_core.specs.SheetReading.{events_at}
use Rattle.xlsx_core.specs.TableData.{IsRangeIn}
use Rattle.xlsx_core.specs.Worksheets.{context_of_book, palette_of_book, path_of}
use Rattle.xlsx_core.proofs.RangesRead.{values_answered}
use Rattle.xlsx_core.specs.declared.workbook.Workbook.{Workbook}
use Rattle.std.proofs.lemmas.Result.{err_from_is_err_and}
use Rattle.xlsx_core.proofs.TableRanges.{no_range, area_fails}
use Rattle.xlsx_core.proofs.xlsx.Xlsx.values_in.Goals as goal

pub returns-in_default-clause-reads : goal.returns-in_default-clause-reads
returns-in_default-clause-reads g c = λ told.
    let made = c.in_ok-from_sparse in
    rw c.in_default.is
    (no_range value_of_data made.field-0 (placed_cells c.new.result.items) nothing
    (ap placed_cells c.new.ensures.items) made.ensures.cells made.ensures.bounds
    (ap value_of_data made.ensures.blank))

pub returns-in_err-cells-clause-err : goal.returns-in_err-cells-clause-err
returns-in_err-cells-clause-err g c =
    let xlsx = c.args.self.now in
    let old = xlsx.xml.source in
    let new = c.worksheet_cells.new.self.xml.source in
    let p = err_from_is_err_and c.from_residual-in_err-cells.result
    c.from_residual-in_err-cells.ensures.1 in
    rw (p.1, p.2, c.in-Some.is)
    (area_fails values_alone xlsx c.args.sheet.now c.in-Some.area old new c.in_err-cells.field-0.0
    c.in_err-cells.ensures.err)

pub returns-clause-reads : goal.returns-clause-reads
returns-clause-reads g c = λ told.
    let xlsx = c.args.self.now in
    let old = xlsx.xml.source in
    let cells = c.in_ok-cells.cells in
    let kept = c.in_ok-cells.ensures.rest in
    let range = c.in_ok-values_in_area.field-0 in
    rw c.in-Some.is
    (values_answered (events_at (path_of xlsx c.args.sheet.now) old.parts) (context_of_book xlsx)
    (length (palette_of_book xlsx)) (value_entries (cells_gathered cells.values))
    (formula_entries (cells_gathered cells.formulas)) cells.style_ids.items
    (λ values. IsRangeIn value_of_data xlsx.workbook.header_row c.in-Some.area
    (with_texts (context_of_book xlsx).strings values) nothing range)
    (c.in_ok-cells.ensures.reads told)
    (subst (λ (header : HeaderRow). IsRangeIn value_of_data header c.in-Some.area
    (with_texts (context_of_book xlsx).strings (value_entries (cells_gathered cells.values)))
    nothing range) (ap (λ (own : Workbook). own.header_row) kept)
    (subst (λ (strings : List (String Global)). IsRangeIn value_of_data
    c.worksheet_cells.new.self.workbook.header_row c.in-Some.area
    (with_texts (map string_bytes strings) (value_entries (cells_gathered cells.values)))
    nothing range)
    (c.deref.ensures.value ∙ ap (λ (own : Workbook). own.shared.strings.items) kept)
    c.in_ok-values_in_area.ensures)))
