use Rattle.xlsx_tables.proofs.TablesKept.{tables_by_number}
use Rattle.xlsx_tables.proofs.tables.read_sheet_tables.Goals as goal

pub returns-clause-answers : goal.returns-clause-answers
returns-clause-answers g c =
    tables_by_number c.args.sheet c.args.path.now c.push_related.result
    c.push_related.ensures.answers
