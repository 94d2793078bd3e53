use Rattle.std.proofs.Common.{◌∙◌, ap, map, string_bytes}
use Rattle.xlsx_commands.proofs.TablesPlaced.{name_fitted}
use Rattle.xlsx_commands.proofs.table_rows.fitted_names.Goals as goal

pub columns-preserved : goal.columns-preserved
columns-preserved c =
    ap (map string_bytes) c.in_ok-push.ensures.items
    ∙ name_fitted (map string_bytes c.args.names.now) c.columns.column c.columns.fitted.items
    c.in_ok-from_str.field-0 c.columns.invariant
    (c.in_ok-from_str.ensures.ok ∙ c.name_at.ensures)
