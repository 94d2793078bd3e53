use Rattle.std.proofs.Common.{◌∙◌, ap}
use Rattle.std.specs.Result.{result_from_control_flow}
use Rattle.std.proofs.lemmas.Result.{err_from_is_err_and}
use Rattle.cell_data.specs.Words.{bounds_of, height_of, box_count, row_items}
use Rattle.json_rows.specs.RowObjects.{keys_over}
use Rattle.xlsx_core.specs.Words.{SheetCause}
use Rattle.xlsx_commands.specs.RowObjects.{HasNoHeader, HasDoubleKey}
use Rattle.xlsx_commands.specs.SheetRows.{HasLargeArea}
use Rattle.xlsx_commands.proofs.ObjectsPlaced.{objects_of_sheet, double_of_sheet, headless_sheet}
use Rattle.xlsx_commands.proofs.ObjectsPlaced.{keys_fail, answered_not, fits_unless, some_unless}
use Rattle.xlsx_commands.proofs.ObjectsPlaced.{refused_objects}
use Rattle.xlsx_commands.proofs.OutputLemmas.{ok_at, err_at}
use Rattle.xlsx_commands.proofs.RowsPlaced.{large_of_sheet, asked_range}
use Rattle.xlsx_commands.proofs.row_objects.row_objects.Goals as goal

pub returns-in_err-read-clause-err : goal.returns-in_err-read-clause-err
returns-in_err-read-clause-err c =
    let handed = err_from_is_err_and c.from_residual.result c.from_residual.ensures.1 in
    let answered = c.branch-read.ensures ∙ ap result_from_control_flow c.in_err-read.is in
    let fails = err_at c.row_values.result _ _ answered c.row_values.ensures.err in
    let parts = c.args.package.parts in
    let name = c.args.name.now in
    rw (handed.1, handed.2)
    (refused_objects (SheetCause parts name) (HasLargeArea parts name c.args.asked)
    (HasNoHeader parts name c.args.asked) (HasDoubleKey parts name c.args.asked) _ fails)

pub returns-in_err-headed_rows_json-clause-err : goal.returns-in_err-headed_rows_json-clause-err
returns-in_err-headed_rows_json-clause-err c =
    let handed = err_from_is_err_and c.from_residual-in_err-headed_rows_json.result
    c.from_residual-in_err-headed_rows_json.ensures.1 in
    let answered = c.branch-read.ensures ∙ ap result_from_control_flow c.in_ok-read.is in
    let reads = ok_at c.row_values.result _ _ answered c.row_values.ensures.ok in
    let least = ok_at c.row_values.result _ _ answered c.row_values.ensures.range in
    let parts = c.args.package.parts in
    let name = c.args.name.now in
    let asked = c.args.asked in
    let found = c.in_ok-read.read in
    let range = c.in_asked_area-values.result in
    let result = c.headed_rows_json.result in
    let same = asked_range _ _ _ c.in_asked_area-values.ensures.cells
    c.in_asked_area-values.ensures.bounds c.in_asked_area-values.ensures.blank in
    rw (handed.1, handed.2)
    (keys_fail (SheetCause parts name) (HasLargeArea parts name asked)
    (HasNoHeader parts name asked) (HasDoubleKey parts name asked) (box_count range)
    (height_of (bounds_of range)) (keys_over asked.options (row_items range)) result
    c.in_err-headed_rows_json.field-0.0 c.headed_rows_json.ensures.large
    c.headed_rows_json.ensures.none
    (err_at result _ _ c.in_err-headed_rows_json.was c.headed_rows_json.ensures.twice)
    c.in_err-headed_rows_json.was
    (large_of_sheet parts name asked found reads least range same)
    (headless_sheet parts name asked found reads least range same)
    (double_of_sheet parts name asked found reads least range same))

pub returns-clause-ok : goal.returns-clause-ok
returns-clause-ok c =
    let answered = c.branch-read.ensures ∙ ap result_from_control_flow c.in_ok-read.is in
    let reads = ok_at c.row_values.result _ _ answered c.row_values.ensures.ok in
    let least = ok_at c.row_values.result _ _ answered c.row_values.ensures.range in
    let range = c.in_asked_area-values.result in
    let result = c.headed_rows_json.result in
    let rows = c.in_ok-headed_rows_json.field-0 in
    let was = c.in_ok-headed_rows_json.was in
    objects_of_sheet c.args.package.parts c.args.name.now c.args.asked c.in_ok-read.read reads least
    range (asked_range _ _ _ c.in_asked_area-values.ensures.cells
    c.in_asked_area-values.ensures.bounds c.in_asked_area-values.ensures.blank)
    rows.items
    (fits_unless (box_count range)
    (answered_not _ result rows _ c.headed_rows_json.ensures.large was))
    (some_unless (height_of (bounds_of range))
    (answered_not _ result rows _ c.headed_rows_json.ensures.none was))
    c.in_ok-headed_rows_json.ensures.apart c.in_ok-headed_rows_json.ensures.rows
