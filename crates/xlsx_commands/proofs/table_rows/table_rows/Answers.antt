use Rattle.std.proofs.Common.{◌∙◌, ap, map, string_bytes}
use Rattle.std.proofs.lemmas.Result.{err_from_is_err_and}
use Rattle.cell_data.specs.Words.{box_count}
use Rattle.xlsx_commands.specs.TableLists.{NamedTableCause}
use Rattle.xlsx_commands.specs.TableRows.{HasLargeTable}
use Rattle.xlsx_commands.proofs.RowsPlaced.{fits_by, rows_fail, refused_alike}
use Rattle.xlsx_commands.proofs.TablesPlaced.{header_of_data, records_of_data, large_of_data}
use Rattle.xlsx_commands.proofs.table_rows.table_rows.Goals as goal

pub returns-in_err-table-clause-err : goal.returns-in_err-table-clause-err
returns-in_err-table-clause-err c =
    let handed = err_from_is_err_and c.from_residual.result c.from_residual.ensures.1 in
    let parts = c.args.package.parts in
    let name = c.args.name.now in
    rw (handed.1, handed.2)
    (refused_alike (NamedTableCause c.args.asked.shown parts name)
    (HasLargeTable c.args.asked.shown parts name) c.in_err-table.field-0.0
    c.in_err-table.ensures.err)

pub rows_csv-requires : goal.rows_csv-requires
rows_csv-requires c = record {
  header =
      header_of_data c.args.asked.shown c.args.package.parts c.args.name.now c.in_ok-table.table
      c.in_ok-table.ensures.ok c.data.result.now c.deref.result.now c.data.ensures
      (ap (map string_bytes) c.deref.ensures.value ∙ c.in_ok-header.ensures);
}

pub returns-in_err-rows_csv-clause-err : goal.returns-in_err-rows_csv-clause-err
returns-in_err-rows_csv-clause-err c =
    let handed = err_from_is_err_and c.from_residual-in_err-rows_csv.result
    c.from_residual-in_err-rows_csv.ensures.1 in
    let parts = c.args.package.parts in
    let name = c.args.name.now in
    let range = c.data.result.now in
    rw (handed.1, handed.2)
    (rows_fail (NamedTableCause c.args.asked.shown parts name)
    (HasLargeTable c.args.asked.shown parts name) (box_count range) c.rows_csv.result
    c.in_err-rows_csv.field-0.0 c.rows_csv.ensures.large c.in_err-rows_csv.was
    (large_of_data c.args.asked.shown parts name c.in_ok-table.table c.in_ok-table.ensures.ok range
    c.data.ensures))

pub returns-clause-ok : goal.returns-clause-ok
returns-clause-ok c =
    let range = c.data.result.now in
    let rows = c.in_ok-rows_csv.field-0 in
    records_of_data c.args.asked.shown c.args.package.parts c.args.name.now c.in_ok-table.table
    c.in_ok-table.ensures.ok range c.deref.result.now rows.items c.data.ensures
    (ap (map string_bytes) c.deref.ensures.value ∙ c.in_ok-header.ensures) c.args.asked.options
    (fits_by (box_count range) c.rows_csv.result rows c.rows_csv.ensures.large
    c.in_ok-rows_csv.was) c.in_ok-rows_csv.ensures.rows
