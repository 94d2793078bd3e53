use Rattle.xlsx_workbook.proofs.workbook.take_event.Goals as goal

pub returns-in-Start-clause-err : goal.returns-in-Start-clause-err
returns-in-Start-clause-err c = rw c.in-Start.is c.take_start.ensures.err
