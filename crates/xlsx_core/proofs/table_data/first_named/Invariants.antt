use Rattle.std.proofs.Common.{◌≡◌, List, drop}
use Rattle.xlsx_workbook.specs.declared.sheet.Sheet.{Sheet}
use Rattle.xlsx_core.specs.TableData.{first_table}
use Rattle.xlsx_core.specs.TableList.{tables_held}
use Rattle.xlsx_core.proofs.table_data.first_named.Given as goal

abbrev pub invariant-tables : goal.invariant-tables
invariant-tables l =
    (sheets : List Sheet) →
    first_table l.fn.name (tables_held sheets (drop l.table-index l.fn.tables))
    ≡ first_table l.fn.name (tables_held sheets l.fn.tables)
