use Rattle.xlsx_core.proofs.xlsx.Xlsx.pivot_tables.Goals as goal

pub returns-clause-answers : goal.returns-clause-answers
returns-clause-answers g c =
    rw (c.as_str-folder.ensures.value, c.deref.ensures.value, c.deref-2.ensures.value) at
    c.read_sheets.ensures
