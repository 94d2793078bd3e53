use Rattle.std.proofs.Common.{map}
use Rattle.cell_data.specs.Words.{cells_gathered}
use Rattle.sorted_cells.specs.Words.{kept_cells}
use Rattle.xlsx_core.specs.FormulaList.{NumberedSheet, formula_read}
use Rattle.xlsx_core.proofs.FormulasListed.{sheet_appends}
use Rattle.xlsx_core.proofs.formula_list.read_sheet_formulas.Goals as goal

pub returns : goal.returns
returns g c =
    let sheet : NumberedSheet = record { number = c.args.number; path = c.args.path.now } in
    sheet_appends sheet (map formula_read c.args.items.now.items)
    (map formula_read c.put_formulas.new.items.items) (cells_gathered c.in_ok-cells.cells)
    (kept_cells c.in_ok-kept.kept) c.args.xml.now.source c.read_covered.new.xml.source _
    c.in_ok-cells.ensures.uses c.in_ok-cells.ensures.to_end c.in_ok-cells.ensures.reads
    c.in_ok-kept.ensures.last c.in_ok-put_formulas.ensures
