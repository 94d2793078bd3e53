use Rattle.std.proofs.Common.{◌≡◌, map, string_bytes}
use Rattle.xlsx_commands.specs.TableRows.{fitted_names}
use Rattle.xlsx_commands.proofs.table_rows.fitted_names.Given as goal

abbrev pub invariant-columns : goal.invariant-columns
invariant-columns l =
    map string_bytes l.fitted.items ≡ fitted_names l.column (map string_bytes l.fn.names)
