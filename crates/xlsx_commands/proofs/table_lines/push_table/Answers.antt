use Rattle.std.proofs.Common.{◌∙◌, ap, map, string_bytes, ◌++◌}
use Rattle.std.proofs.lemmas.Result.{on_ok_weaker}
use Rattle.xlsx_core.specs.Words.{loaded_tables}
use Rattle.xlsx_commands.proofs.TablesListed.{area_lies, line_at}
use Rattle.xlsx_commands.proofs.table_lines.push_table.Goals as goal

pub push_table_line-requires : goal.push_table_line-requires
push_table_line-requires c = area_lies c.table_area-area.result c.table_area-area.ensures.inside

pub returns : goal.returns
returns c = λ own there named.
    on_ok_weaker c.push_table_line.result
    (λ pushed. pushed ∙ ap (λ text. string_bytes c.args.out.now ++ text)
    (line_at c.args.form (loaded_tables c.args.xlsx.now) c.args.index own c.args.name.now
    c.table_sheet-sheet.result.now c.table_area-area.result
    (map string_bytes c.table_columns.result.now) there named c.table_sheet-sheet.ensures
    c.table_area-area.ensures.area c.table_columns.ensures)) c.push_table_line.ensures.ok
