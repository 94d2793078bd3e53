use Rattle.std.proofs.Common.{◌≡◌, ◌++◌, map, string_bytes}
use Rattle.sorted_cells.specs.Words.{kept_cells, owned_left}
use Rattle.xlsx_cells.specs.Words.{formula_entries}
use Rattle.cell_data.specs.Words.{with_meaning}
use Rattle.xlsx_core.proofs.ranges.written_out.Given as goal

abbrev pub invariant-cells : goal.invariant-cells
invariant-cells l = record {
  texts : map (with_meaning string_bytes) (kept_cells l.own) ≡ formula_entries l.yielded;
  whole : l.yielded ++ owned_left l.pos-iterator ≡ kept_cells l.fn.cells;
}
