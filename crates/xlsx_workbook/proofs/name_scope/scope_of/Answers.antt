use Rattle.std.proofs.Common.{sym, ◌∙◌, ap}
use Rattle.xlsx_workbook.specs.DefinedNames.{scope_by}
use Rattle.xlsx_workbook.proofs.name_scope.scope_of.Goals as goal

pub returns-in-Ok : goal.returns-in-Ok
returns-in-Ok c = c.scope_found.ensures ∙ ap scope_by (sym c.in-Ok.ensures)

pub returns-in-Err : goal.returns-in-Err
returns-in-Err c = ap scope_by (sym c.in-Err.ensures)
