use Rattle.xlsx_core.proofs.SheetsRead.{values_read}
use Rattle.xlsx_commands.proofs.cell_lines.values_of.Goals as goal

pub returns-clause-ok : goal.returns-clause-ok
returns-clause-ok c =
    let parts = c.args.package.parts in
    let cells = c.in_ok-cells in
    let values = c.in_ok-values in
    values_read parts c.args.name.now cells.cells cells.ensures.reading values.values
    values.ensures.values
