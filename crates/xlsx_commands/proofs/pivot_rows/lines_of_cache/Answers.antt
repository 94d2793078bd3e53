use Rattle.xlsx_commands.specs.Status.{of_workbook}
use Rattle.xlsx_commands.specs.SheetsRefused.{CacheFails}
use Rattle.part_events.specs.Words.{Reading, Event, events_of}
use Rattle.std.proofs.Common.{◌∷◌, ◌++◌, ◌∙◌, [], ap, sym, List, ℕ, Some}
use Rattle.std.specs.Prelude.{option_map}
use Rattle.cell_data.specs.Words.{CellValue}
use Rattle.input_package.specs.Told.{told_state}
use Rattle.sheet_listing.specs.SheetListing.{row_line}
use Rattle.xlsx_sections.specs.Words.{FailsBy}
use Rattle.xlsx_pivot_cache.specs.Words.{IsRowError, row_kept, RowsCause, pivot_rows}
use Rattle.xlsx_pivot_cache.specs.Words.{cache_rows_left, TakesRow, KeepsPart}
use Rattle.xlsx_commands.proofs.CachesRead.{opening_rows_fails, row_fails, rows_moved, lines_behind}
use Rattle.xlsx_commands.proofs.pivot_rows.lines_of_cache.Goals as goal

pub returns-in-Err-clause-err : goal.returns-in-Err-clause-err
returns-in-Err-clause-err c =
    let old = told_state c.args.package in
    let fails : CacheFails c.new-xml.result.source.parts c.args.definitions.now
    c.args.records.now (of_workbook c.in-Err.error) =
    opening_rows_fails c.args.definitions.now c.args.records.now c.new-xml.result.source
    c.open.new.xml.source c.in-Err.error (c.into_package.result, c.into_package.ensures)
    (ap (λ (r : Reading). r.source.is_visible) c.new-xml.ensures) c.in-Err.ensures.kind
    c.in-Err.ensures.err in
    rw c.from.ensures (rw c.new-xml.ensures at fails)

pub returns-in-Err-next-clause-err : goal.returns-in-Err-next-clause-err
returns-in-Err-next-clause-err c =
    let old = pivot_rows c.rows.xml c.rows.cursor in
    let now = c.rows.invariant in
    let gives = c.in-Some.ensures.gives in
    let fails : FailsBy (RowsCause old.fields (events_of old.reading)) old.reading.source
    c.next.new.xml.source c.in-Err-next.error = rw c.in-Err-next.is at gives.err in
    let kind : IsRowError c.in-Err-next.error = rw c.in-Err-next.is at gives.kind in
    rw c.from-in-Err-next.ensures
    (row_fails c.args.package.parts c.args.definitions.now c.args.records.now old.fields
    (events_of old.reading) old.reading.source c.next.new.xml.source c.in-Err-next.error
    (c.into_package-in-Err-next.result, c.into_package-in-Err-next.ensures) now.told now.fields
    now.part kind fails)

pub rows-preserved : goal.rows-preserved
rows-preserved c =
    let old = pivot_rows c.rows.xml c.rows.cursor in
    let new = pivot_rows c.next.new.xml c.next.new.self in
    let now = c.rows.invariant in
    let taken = now.rows.0 in
    let row = row_kept c.in-Ok-next.row.items in
    let reads : KeepsPart old.reading new.reading =
    rw c.in-Ok-next.is at c.in-Some.ensures.gives.reads in
    let takes : TakesRow row old new = rw c.in-Ok-next.is at c.in-Some.ensures.gives.row in
    record {
      told = reads.moves.parts.is_visible ∙ now.told;
      at = c.next.ensures.at;
      fields = rw c.next.ensures.fields now.fields;
      part = now.part ∙ ap (λ (own : List Event). Some own) (sym (reads.part now.told));
      rows = (
        taken ++ (row ∷ []),
        (rw c.deref.ensures.value at c.in_ok-push_row_line.ensures)
            ∙ ap (λ (text : List ℕ). text ++ row_line row) now.rows.1
            ∙ sym (lines_behind taken row),
        now.rows.2
            ∙ ap (option_map (λ (rest : List (List CellValue)). taken ++ rest)) (takes now.told)
            ∙ rows_moved taken row (cache_rows_left new),
      );
    }
