use Rattle.std.proofs.Common.{◌∙◌, ap, map, string_bytes, arith, false}
use Rattle.std.proofs.lemmas.Result.{err_from_is_err_and}
use Rattle.cell_data.specs.Words.{box_count}
use Rattle.xlsx_commands.specs.TableLists.{NamedTableCause}
use Rattle.xlsx_commands.specs.TableObjects.{HasDoubleName}
use Rattle.xlsx_commands.specs.TableRows.{HasLargeTable}
use Rattle.xlsx_commands.proofs.ObjectsPlaced.{objects_of_data, double_of_data, keys_fail}
use Rattle.xlsx_commands.proofs.ObjectsPlaced.{answered_not, fits_unless, never_empty}
use Rattle.xlsx_commands.proofs.ObjectsPlaced.{refused_objects}
use Rattle.xlsx_commands.proofs.OutputLemmas.{err_at}
use Rattle.xlsx_commands.proofs.TablesPlaced.{header_of_data, large_of_data}
use Rattle.xlsx_commands.proofs.table_objects.table_objects.Goals as goal

pub returns-in_err-table-clause-err : goal.returns-in_err-table-clause-err
returns-in_err-table-clause-err c =
    let handed = err_from_is_err_and c.from_residual.result c.from_residual.ensures.1 in
    let parts = c.args.package.parts in
    let name = c.args.name.now in
    rw (handed.1, handed.2)
    (refused_objects (NamedTableCause false parts name) (HasLargeTable false parts name) ⊥
    (HasDoubleName parts name) c.in_err-table.field-0.0 c.in_err-table.ensures.err)

pub keyed_rows_json-requires : goal.keyed_rows_json-requires
keyed_rows_json-requires c = record {
  keys =
      header_of_data false c.args.package.parts c.args.name.now c.in_ok-table.table
      c.in_ok-table.ensures.ok c.data.result.now c.deref.result.now c.data.ensures
      (ap (map string_bytes) c.deref.ensures.value ∙ c.in_ok-keys.ensures);
}

pub returns-in_err-keyed_rows_json-clause-err : goal.returns-in_err-keyed_rows_json-clause-err
returns-in_err-keyed_rows_json-clause-err c =
    let handed = err_from_is_err_and c.from_residual-in_err-keyed_rows_json.result
    c.from_residual-in_err-keyed_rows_json.ensures.1 in
    let parts = c.args.package.parts in
    let name = c.args.name.now in
    let table = c.in_ok-table.table in
    let has = c.in_ok-table.ensures.ok in
    let range = c.data.result.now in
    let result = c.keyed_rows_json.result in
    let keys = map string_bytes c.deref.result.now in
    let named = ap (map string_bytes) c.deref.ensures.value ∙ c.in_ok-keys.ensures in
    rw (handed.1, handed.2)
    (keys_fail (NamedTableCause false parts name) (HasLargeTable false parts name) ⊥
    (HasDoubleName parts name) (box_count range) 1 keys result
    c.in_err-keyed_rows_json.field-0.0 c.keyed_rows_json.ensures.large
    (never_empty 1 result (omega arith) c.keyed_rows_json.ensures.none)
    (err_at result _ _ c.in_err-keyed_rows_json.was c.keyed_rows_json.ensures.twice)
    c.in_err-keyed_rows_json.was
    (large_of_data false parts name table has range c.data.ensures)
    (λ none. omega (arith, none))
    (λ key fits some. double_of_data parts name table has range c.data.ensures keys named key fits))

pub returns-clause-ok : goal.returns-clause-ok
returns-clause-ok c =
    let range = c.data.result.now in
    let result = c.keyed_rows_json.result in
    let rows = c.in_ok-keyed_rows_json.field-0 in
    let named = ap (map string_bytes) c.deref.ensures.value ∙ c.in_ok-keys.ensures in
    objects_of_data c.args.package.parts c.args.name.now c.in_ok-table.table
    c.in_ok-table.ensures.ok range c.data.ensures (map string_bytes c.deref.result.now) named
    c.args.options rows.items
    (fits_unless (box_count range)
    (answered_not _ result rows _ c.keyed_rows_json.ensures.large c.in_ok-keyed_rows_json.was))
    c.in_ok-keyed_rows_json.ensures.apart c.in_ok-keyed_rows_json.ensures.rows
