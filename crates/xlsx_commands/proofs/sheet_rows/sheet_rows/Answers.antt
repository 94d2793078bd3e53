use Rattle.std.proofs.Common.{◌∙◌, ap}
use Rattle.std.specs.Result.{result_from_control_flow}
use Rattle.std.proofs.lemmas.Result.{err_from_is_err_and}
use Rattle.cell_data.specs.Words.{box_count}
use Rattle.xlsx_core.specs.Words.{SheetCause}
use Rattle.xlsx_commands.specs.SheetRows.{HasLargeArea}
use Rattle.xlsx_commands.proofs.OutputLemmas.{ok_at, err_at}
use Rattle.xlsx_commands.proofs.RowsPlaced.{rows_of_sheet, large_of_sheet, fits_by, rows_fail}
use Rattle.xlsx_commands.proofs.RowsPlaced.{refused_alike, asked_range}
use Rattle.xlsx_commands.proofs.sheet_rows.sheet_rows.Goals as goal

pub returns-in_err-read-clause-err : goal.returns-in_err-read-clause-err
returns-in_err-read-clause-err c =
    let handed = err_from_is_err_and c.from_residual.result c.from_residual.ensures.1 in
    let answered = c.branch-read.ensures ∙ ap result_from_control_flow c.in_err-read.is in
    let fails = err_at c.row_values.result _ _ answered c.row_values.ensures.err in
    let parts = c.args.package.parts in
    rw (handed.1, handed.2)
    (refused_alike (SheetCause parts c.args.name.now)
    (HasLargeArea parts c.args.name.now c.args.asked) _ fails)

pub returns-in_err-rows_csv-clause-err : goal.returns-in_err-rows_csv-clause-err
returns-in_err-rows_csv-clause-err c =
    let handed = err_from_is_err_and c.from_residual-in_err-rows_csv.result
    c.from_residual-in_err-rows_csv.ensures.1 in
    let answered = c.branch-read.ensures ∙ ap result_from_control_flow c.in_ok-read.is in
    let result = c.row_values.result in
    let reads = ok_at result _ _ answered c.row_values.ensures.ok in
    let least = ok_at result _ _ answered c.row_values.ensures.range in
    let parts = c.args.package.parts in
    let found = c.in_ok-read.read in
    rw (handed.1, handed.2)
    (rows_fail (SheetCause parts c.args.name.now)
    (HasLargeArea parts c.args.name.now c.args.asked)
    (box_count c.in_asked_area-values.result) c.rows_csv.result c.in_err-rows_csv.field-0.0
    c.rows_csv.ensures.large c.in_err-rows_csv.was
    (large_of_sheet parts c.args.name.now c.args.asked found reads least
    c.in_asked_area-values.result (asked_range _ _ _ c.in_asked_area-values.ensures.cells
    c.in_asked_area-values.ensures.bounds c.in_asked_area-values.ensures.blank)))

pub returns-clause-ok : goal.returns-clause-ok
returns-clause-ok c =
    let answered = c.branch-read.ensures ∙ ap result_from_control_flow c.in_ok-read.is in
    let result = c.row_values.result in
    let reads = ok_at result _ _ answered c.row_values.ensures.ok in
    let least = ok_at result _ _ answered c.row_values.ensures.range in
    let found = c.in_ok-read.read in
    let rows = c.in_ok-rows_csv.field-0 in
    rows_of_sheet c.args.package.parts c.args.name.now c.args.asked found reads least
    c.in_asked_area-values.result (asked_range _ _ _ c.in_asked_area-values.ensures.cells
    c.in_asked_area-values.ensures.bounds c.in_asked_area-values.ensures.blank)
    rows.items
    (fits_by (box_count c.in_asked_area-values.result) c.rows_csv.result rows
    c.rows_csv.ensures.large
    c.in_ok-rows_csv.was) c.in_ok-rows_csv.ensures.rows
