use Rattle.xlsx_core.proofs.TablesListed.{kept_on_sheet}
use Rattle.xlsx_core.proofs.table_list.TableListsReadsSheets.keep.Goals as goal

pub returns : goal.returns
returns g c =
    kept_on_sheet c.args.sheets.now c.args.number c.args.path.now c.args.tables.now.items
    c.read_sheet_tables.new.tables.items c.read_sheet_tables.result
    c.read_sheet_tables.ensures.answers
