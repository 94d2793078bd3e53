use Rattle.std.proofs.Common.{◌≡◌, ◌++◌, map}
use Rattle.sorted_cells.specs.Words.{kept_cells, owned_left}
use Rattle.xlsx_cells.specs.Words.{covered_entries}
use Rattle.xlsx_core.specs.FormulaList.{formula_on, formula_read}
use Rattle.xlsx_core.proofs.formula_list.put_formulas.Given as goal

abbrev pub invariant-cells : goal.invariant-cells
invariant-cells l = record {
  listed : map formula_read l.items.items
      ≡ map formula_read l.fn.items.items
      ++ map (formula_on l.number) (covered_entries l.yielded);
  whole : l.yielded ++ owned_left l.pos-iterator ≡ kept_cells l.fn.cells;
}
